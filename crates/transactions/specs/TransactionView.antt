-- What clauses see of a transaction.
use Rattle.std.specs.Prelude.{◌≡◌, ℕ, List, ◌++◌}
use Rattle.registration.specs.declared.settings.Settings.{Settings}
use Rattle.roster.specs.declared.deed.Deed.{Deed}
use Rattle.roster.specs.LookBack.{after, opened_in}
use Rattle.roster.specs.Legal.{AreNext}
use Rattle.transactions.specs.declared.effect.Effect.{Effect}
use Rattle.transactions.specs.declared.verdict.Verdict.{Verdict}
use Rattle.transactions.specs.Effects.{deeds_of}
use Rattle.transactions.specs.Verdicts.{IsVerdict}

pub record TransactionView : Type 0 where
  -- the server's
  pub settings : Settings
  -- the facts of the roster
  pub base : List Deed
  -- and with those that were established since
  pub facts : List Deed
  pub effects : List Effect
  -- the record's own
  pub session : ℕ

-- a transaction with these effects more
abbrev pub grown : TransactionView → List Effect → TransactionView
grown d es = record {
  settings = d.settings;
  base = d.base;
  facts = after d.facts (deeds_of es);
  effects = d.effects ++ es;
  session = d.session;
}

-- facts that a transaction may establish: they may come next, and open no session
pub record IsTransaction (fs ds : List Deed) : Type 0 where
  pub next : AreNext fs ds
  pub opened : opened_in (after fs ds) ≡ opened_in fs

-- and what comes of effects, as it is kept
pub record IsKept (fs : List Deed) (v : Verdict) (s : ℕ) (es : List Effect) : Type 0 where
  pub tx : IsTransaction fs v.deeds.items
  pub verdict : IsVerdict v s es
