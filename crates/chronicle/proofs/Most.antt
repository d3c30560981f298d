-- The highest number that a record may have.
use Rattle.std.proofs.Common.{arith, ◌≡◌, ℕ, ◌+◌, ◌-◌, ◌^◌, ◌<◌, ◌≤◌, Bool, true, min}
use Rattle.chronicle.specs.Journal.{most}

pub most_capped : (cut : Bool) (limit dropped : ℕ) → dropped ≤ 2 ^ 60 → 2 ^ 60 - dropped < limit
    → 2 ^ 60 ≡ most (record { records = limit; dropped = dropped; is_cut = cut })
unfolding most
most_capped cut limit dropped h few = omega arith

pub most_free : (cut : Bool) (limit dropped : ℕ) → dropped ≤ 2 ^ 60 → limit ≤ 2 ^ 60 - dropped
    → dropped + limit ≡ most (record { records = limit; dropped = dropped; is_cut = cut })
unfolding most
most_free cut limit dropped h few = omega arith

-- no number is too high
pub most_low : (cut : Bool) (limit dropped : ℕ)
    → most (record { records = limit; dropped = dropped; is_cut = cut }) ≤ 2 ^ 60
unfolding most
most_low cut limit dropped = omega arith

pub most_kept : (cut : Bool) (limit dropped kept : ℕ)
    → dropped + kept < most (record { records = limit; dropped = dropped; is_cut = cut }) → kept < limit
unfolding most
most_kept cut limit dropped kept h = omega arith

-- room for one less after one more record
pub room_less : (free' free m n : ℕ) → free' + 1 ≡ free → 0 < min free (m - n)
    → min free' (m - (n + 1)) + 1 ≡ min free (m - n)
room_less free' free m n e h = omega arith

room_there : (free m n : ℕ) → 0 < min free (m - n) → n < m
room_there free m n h = omega arith

-- where there is room for a record, it is within the limits
pub room_kept : (cut : Bool) (free limit dropped kept : ℕ)
    → 0 < min free (most (record { records = limit; dropped = dropped; is_cut = cut }) - (dropped + kept))
    → kept < limit
room_kept cut free limit dropped kept h = most_kept cut limit dropped kept
    (room_there free (most (record { records = limit; dropped = dropped; is_cut = cut })) (dropped + kept) h)

pub room_low : (cut : Bool) (free limit dropped kept : ℕ) → 0
    < min free (most (record { records = limit; dropped = dropped; is_cut = cut }) - (dropped + kept))
    → dropped + kept < 2 ^ 60
room_low cut free limit dropped kept h =
    let n = room_there free (most (record { records = limit; dropped = dropped; is_cut = cut })) (dropped + kept) h in
    omega (arith, n, most_low cut limit dropped)

-- and no less after all were dropped
pub room_cut : (cut : Bool) (free free' limit dropped kept new none : ℕ) → free ≤ free' → new ≡ dropped + kept
    → none ≡ 0 → min free (most (record { records = limit; dropped = dropped; is_cut = cut }) - (dropped + kept))
    ≤ min free' (most (record { records = limit; dropped = new; is_cut = true }) - (new + none))
unfolding most
room_cut cut free free' limit dropped kept new none c e n = omega arith
