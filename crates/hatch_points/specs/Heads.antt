-- Counts as the code tests them. Assumes nothing.
use Rattle.std.specs.Prelude.{◌≡◌, refl, Bool, true, false, List, leb, ℕ, ◌-◌, ◌≤◌}
use Rattle.bitcursor.specs.declared.Refusal.TheVariants.{CountTooLarge}
use Rattle.loads.specs.Bits.{size}
use Rattle.bitcursor.specs.Reading.{Out, got, refused, and_then}
use Rattle.bitcursor.specs.Code.{Code}
use Rattle.bitcursor.specs.Format.{pure, refuse, ◌>>=◌, relay, either}
use Rattle.bitcursor.specs.Inputs.{one}
use Rattle.bitcursor.specs.Fields.{asked, at_least}
use Rattle.hatch_format.specs.Counts.{capped_read, capped, bounded_read, bounded}

-- the Rust's `bounds_check`: refusal 3 where the count is above the cap, and then where it is above the bits left
abbrev pub bounds_of : List ℕ → ℕ → ℕ → ℕ → Out ℕ ℕ
bounds_of xs cap n p =
    elim (leb n cap) [ true ↦ elim (leb n (size xs - p)) [ true ↦ got n p | false ↦ refused CountTooLarge p ] | false ↦ refused CountTooLarge p ]

pub bounds_bounded : (cap : ℕ) (c : Code ℕ) (xs : List ℕ) (p : ℕ) → (bounded cap c).read xs p ≡ and_then (c.read xs p) (λ n q. bounds_of xs cap n q)
unfolding bounded bounded_read capped capped_read at_least relay ◌>>=◌ either pure refuse
bounds_bounded cap c xs p = go (c.read xs p)
  where
    left_test : (n q : ℕ) (t : Bool)
        → and_then (asked t q) (λ u r. got n r) ≡ elim t [ true ↦ got n q | false ↦ refused CountTooLarge q ]
    left_test n q true = refl
    left_test n q false = refl

    cap_test : (n q : ℕ) (s : Bool)
        → and_then ((either {M = one} s (pure n) (refuse CountTooLarge tt)).read xs q) (λ m r. and_then ((at_least m).read xs r) (λ u t. got m t))
        ≡ elim s [ true ↦ elim (leb n (size xs - q)) [ true ↦ got n q | false ↦ refused CountTooLarge q ] | false ↦ refused CountTooLarge q ]
    cap_test n q true = left_test n q (leb n (size xs - q))
    cap_test n q false = refl

    go : (o : Out ℕ ℕ)
        → and_then (and_then o (λ n q. (either {M = one} (leb n cap) (pure n) (refuse CountTooLarge tt)).read xs q))
        (λ m r. and_then ((at_least m).read xs r) (λ u t. got m t))
        ≡ and_then o (λ n q. bounds_of xs cap n q)
    go (refused k q) = refl
    go (got n q) = cap_test n q (leb n cap)

-- a count that was read is not above its cap
pub count_capped : (cap : ℕ) (c : Code ℕ) (xs : List ℕ) (p : ℕ) {n q : ℕ} → (bounded cap c).read xs p ≡ got n q → n ≤ cap
unfolding bounded relay
count_capped cap c xs p {n} {q} e = ((bounded cap c).sound xs n p q e).0.1
