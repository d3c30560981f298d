-- Which faults of an account's line make it a bad line: this project's own choice.
use Rattle.registration.specs.declared.accounts.AccountFault.{AccountFault}
use Rattle.registration.specs.declared.accounts.AccountFault.TheVariants as account
use Rattle.scripts.specs.declared.header.HeaderFault.{HeaderFault}
use Rattle.scripts.specs.declared.header.HeaderFault.TheVariants.{Bad, Memory}

-- all but want of memory
abbrev pub fault_of : AccountFault → HeaderFault
fault_of account.Shape = Bad
fault_of account.BadName = Bad
fault_of account.BadDigest = Bad
fault_of account.Twice = Bad
fault_of account.Memory = Memory
