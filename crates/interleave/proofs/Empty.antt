-- A play in which nothing happened yet.
use Rattle.std.proofs.Common.{◌≡◌, ℕ, zero, suc, [], replicate, slice_index_or, Some, None, arith, refl, subst, sym}
use Rattle.std.proofs.lemmas.List.Elements.{All-nil}
use Rattle.chronicle.specs.History.{Rec}
use Rattle.registration.specs.declared.settings.Settings.{Settings}
use Rattle.registration.specs.Settings.{IsWellSet}
use Rattle.clean_records.specs.Clean.{IsCleanKind}
use Rattle.book.specs.Ring.{Waiting, put_into}
use Rattle.book.specs.Ledger.{Shown, kept_total}
use Rattle.book.specs.Ledger as book
use Rattle.interleave.specs.Kept.{IsKept}

no_job : (workers i s : ℕ) → slice_index_or (replicate workers None) i None ≡ Some s → ⊥
no_job zero i s e = let f : None ≡ Some s = e in cc
no_job (suc n) zero s e = let f : None ≡ Some s = e in cc
no_job (suc n) (suc i) s e = no_job n i s e

empty_sound : (limit : ℕ) (settings : Settings) (m : Shown Waiting) → m ≡ book.empty_ledger limit settings
    → book.IsSound put_into m
empty_sound limit settings m is =
    let nobody : kept_total [] ≡ 0 = refl in
    subst (book.IsSound put_into) (sym is)
    (record {
      owed = λ t from to here. absurd (omega arith);
      items = λ t from to. absurd (omega arith);
      reaped = λ t from to away. absurd (omega arith);
      plan = tt;
      idle = λ e. refl;
      legal = tt;
      sessions = refl;
      room = omega arith;
    })

pub empty_kept : (limit : ℕ) (settings : Settings) (sendq workers : ℕ) → IsWellSet settings
    → IsKept (book.empty_ledger limit settings) sendq [] (replicate workers None) None
empty_kept limit settings sendq workers set =
    record {
      sound = record {
        book = empty_sound limit settings (book.empty_ledger limit settings) refl;
        inboxes = refl;
        each = λ t from to. absurd (omega arith);
        jobs = λ i s e. absurd (no_job workers i s e);
        lock = refl;
        holder = λ w e. absurd (let f : None ≡ Some w = e in cc);
        set = set;
        clean = All-nil (λ (r : Rec). IsCleanKind r.kind);
      };
      turns = λ t from to. absurd (omega arith);
      holding = tt;
    }
