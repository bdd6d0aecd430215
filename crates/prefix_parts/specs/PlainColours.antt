-- A colour below 2000 has none of 80, 40 and 20 set in its high byte, so nothing follows it. Assumes nothing.
use Rattle.std.specs.Prelude.{◌≡◌, Bool, true, false, not, ◌&&◌, List, ℕ, ◌/◌, ◌^◌, ◌<◌, None}
use Rattle.std.proofs.Common.{refl, sym, ap, ◌∙◌, arith}
use Rattle.loads.specs.Bits.{odd}
use Rattle.bitcursor.specs.Reading.{Out, got, and_then}
use Rattle.bitcursor.specs.Code.{give, ◌>>=◌}
use Rattle.bitcursor.specs.Codes.{BS, BL}
use Rattle.bitcursor.specs.Held.{held, marked}
use Rattle.prefix_format.specs.declared.table.Row.{Row}
use Rattle.prefix_parts.specs.declared.Colours.{Colours}
use Rattle.prefix_format.specs.Values.{flag, has_rgb, has_alpha, has_name, has_book_name}
use Rattle.prefix_format.specs.Prefix.{name}
use Rattle.prefix_parts.specs.Parts.{colours}

and_false : (b : Bool) → (b && false) ≡ false
and_false true = refl
and_false false = refl

module _ (row : Row) (c : ℕ) (h : c < 0x2000) where
  no_80 : flag 15 c ≡ false
  no_80 = let e : c / 2 ^ 15 ≡ 0 = omega arith in ap odd e

  no_40 : flag 14 c ≡ false
  no_40 = let e : c / 2 ^ 14 ≡ 0 = omega arith in ap odd e

  no_20 : flag 13 c ≡ false
  no_20 = let e : c / 2 ^ 13 ≡ 0 = omega arith in ap odd e

  no_rgb : has_rgb row c ≡ false
  no_rgb = ap (λ (b : Bool). row.color_flags && (b && not (flag 14 c))) no_80 ∙ and_false row.color_flags

  no_alpha : has_alpha row c ≡ false
  no_alpha = ap (λ (b : Bool). row.color_flags && b) no_20 ∙ and_false row.color_flags

  no_name : has_name row c ≡ false
  no_name = ap (λ (b : Bool). row.color_flags && (b && flag 8 c)) no_40 ∙ and_false row.color_flags

  no_book_name : has_book_name row c ≡ false
  no_book_name = ap (λ (b : Bool). row.color_flags && (b && flag 9 c)) no_40 ∙ and_false row.color_flags

module _ (row : Row) (xs : List ℕ) where
  -- what follows a colour's short, by which fields are present
  abbrev behind_short : Bool → Bool → Bool → Bool → ℕ → ℕ → Out ℕ Colours
  behind_short rgb alpha named book c q =
      and_then ((marked rgb BL).read xs q) (λ r q₁.
      and_then ((marked alpha BL).read xs q₁) (λ a q₂.
      and_then ((held named (name row.wide_names) tt).read xs q₂) (λ n q₃.
      and_then ((held book (name row.wide_names) tt).read xs q₃) (λ b q₄.
      got (record { color_raw = c; color_rgb = r; color_alpha = a }) q₄))))

  nothing : (c q : ℕ) → behind_short false false false false c q ≡ got (record { color_raw = c; color_rgb = None; color_alpha = None }) q
  unfolding marked held give
  nothing c q = refl

  pub plain_colours : (p : ℕ) {c q : ℕ} → got c q ≡ BS.read xs p → c < 0x2000
      → (colours row).read xs p ≡ got (record { color_raw = c; color_rgb = None; color_alpha = None }) q
  unfolding colours ◌>>=◌ give
  plain_colours p {c} {q} e h =
      ap (λ (o : Out ℕ ℕ). and_then o (λ c q. behind_short (has_rgb row c) (has_alpha row c) (has_name row c) (has_book_name row c) c q)) (sym e)
      ∙ rw (no_rgb row c h, no_alpha row c h, no_name row c h, no_book_name row c h) (nothing c q)
