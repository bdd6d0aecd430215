-- What is passed over of a front is what the format reads, and its colours stand where it is said. Assumes nothing.
use Rattle.std.specs.Prelude.{◌≡◌, refl, Bool, true, false, List, [], ℕ, ◌≤◌, eqb, leb, length, Option, Result}
use Rattle.std.proofs.Common.{sym, ap, subst, ◌∙◌, arith, true≢false}
use Rattle.bitcursor.specs.declared.Refused.{Refused}
use Rattle.bitcursor.specs.Answers.{outcome}
use Rattle.bitcursor.specs.Reading.{Out, got, refused, and_then}
use Rattle.bitcursor.specs.Codes.{BL}
use Rattle.bitcursor.specs.Doubles.{BD}
use Rattle.bitcursor.specs.Format.{Input, Format, pure, ◌>>=◌, relay, peek}
use Rattle.bitcursor.specs.Inputs.{one, Places, Payloads}
use Rattle.bitcursor.specs.Fields.{coded, main, part_in, lifted, moved_in}
use Rattle.text.specs.declared.Text.{Text}
use Rattle.text.specs.declared.version.Version.{Version}
use Rattle.text.specs.Releases.{release_number}
use Rattle.text.specs.TextField.{TV_field}
use Rattle.hatch_format.specs.declared.Caps.{Caps}
use Rattle.hatch_format.specs.declared.GradientColorBits.{GradientColorBits}
use Rattle.hatch_format.specs.Values.{Block as BlockValue, Gradient as GradientValue, Plane as PlaneValue, no_gradient, shown}
use Rattle.hatch_format.specs.Counts.{bounded, counted, listed_read, listed, times_read, times}
use Rattle.hatch_format.specs.Gradients.{color, takes_color, block_read, block, gradient_read, gradient}
use Rattle.hatch_format.specs.Hatch.{plane}
use Rattle.hatch_points.specs.Heads.{count_capped}
use Rattle.hatch_points.specs.Runs.{times_length}
use Rattle.hatch_front.specs.declared.Front.{Front}
use Rattle.hatch_front.specs.declared.Gradient.{Gradient}
use Rattle.hatch_front.specs.declared.gradients.Block.{Block}
use Rattle.hatch_front.specs.Answers.{ColorsAt, FillAt, Handed, FrontIs, block_of, gradient_of, shown_of, plane_as, front_of}
use Rattle.hatch_front.specs.Fronts.{named_as, named, front_with, front}
use Rattle.hatch_front.specs.Passed.{passed, block_passed, gradient_passed, front_passed}

-- the same first, and then what is handed over
module _ {M : Input} {V W X : Type 0} (hand : ℕ → V → W) (Stand : ℕ → V → Type 0) (γ : M.Bytes) where
  pub handed_then : (f : Format M X) (g : X → Format M V) (h : X → Format M W) (p : M.Place)
      → ((x : X) (q : M.Place) → f.read γ p ≡ got x q → Handed hand Stand ((g x).read γ q) ((h x).read γ q))
      → Handed hand Stand ((f >>= g).read γ p) ((f >>= h).read γ p)
  unfolding ◌>>=◌
  handed_then f g h p k = go (f.read γ p) refl
    where
      go : (o : Out M.Place X) → f.read γ p ≡ o → Handed hand Stand (and_then o (λ x q. (g x).read γ q)) (and_then o (λ x q. (h x).read γ q))
      go (got x q) e = k x q e
      go (refused n q) e = refl

abbrev block_by : ℕ → ℕ → ℕ → ℕ → ℕ → ℕ → List GradientColorBits → BlockValue
block_by a b c d e f cs = record { flag = a; ignored = b; angle = c; shift = d; single_color = e; tint = f; colors = cs }

abbrev block_with : ℕ → ℕ → ℕ → ℕ → ℕ → ℕ → ℕ → Block
block_with a c d e f n at = record { flag = a; angle = c; shift = d; single_color = e; tint = f; num_colors = n; colors_at = at }

module _ (cap : ℕ) (few : cap ≤ 16) (xs : List ℕ) where
  abbrev stand : ℕ → BlockValue → Type 0
  stand at b = ColorsAt xs at b.colors

  -- the count and the colours
  colors_handed : (a b c d e f p : ℕ)
      → Handed block_of stand ((listed cap BL color takes_color >>= λ cs. pure {M = one} (block_by a b c d e f cs)).read xs p)
      ((bounded cap BL >>= λ n. peek one (λ known q. q) >>= λ at. passed (times n color) >>= λ u. pure {M = one} (block_with a c d e f n at)).read xs p)
  unfolding listed listed_read counted relay passed peek ◌>>=◌ pure
  colors_handed a b c d e f p = go ((bounded cap BL).read xs p) refl
    where
      all : (n q : ℕ) → n ≤ 16 → (o : Out ℕ (List GradientColorBits)) → (times n color).read xs q ≡ o
          → Handed block_of stand (and_then o (λ cs r. got (block_by a b c d e f cs) r))
          (and_then (and_then o (λ cs r. got (tt {0}) r)) (λ u r. got (block_with a c d e f n q) r))
      all n q l (got cs r) i =
          let m : n ≡ length cs = sym (times_length color xs n q i) in (
            q,
            ap (λ (k : ℕ). got (block_with a c d e f k q) r) m,
            record { few = omega (arith, m, l); end = r; read = sym (ap (λ (k : ℕ). (times k color).read xs q) m) ∙ i },
          )
      all n q l (refused k r) i = refl

      go : (o : Out ℕ ℕ) → (bounded cap BL).read xs p ≡ o
          → Handed block_of stand
          (and_then (and_then o (λ n q. (times n color).read xs q)) (λ cs r. got (block_by a b c d e f cs) r))
          (and_then o (λ n q. and_then (and_then ((times n color).read xs q) (λ cs r. got (tt {0}) r)) (λ u r. got (block_with a c d e f n q) r)))
      go (got n q) i =
          let l = count_capped cap BL xs p i in
          all n q (omega (arith, l, few)) ((times n color).read xs q) refl
      go (refused k q) i = refl

  pub block_handed : (p : ℕ) → Handed block_of stand ((block cap).read xs p) ((block_passed cap).read xs p)
  unfolding block block_read block_passed relay
  block_handed p =
      handed_then block_of stand xs (coded BL) _ _ p (λ a p₁ i₁.
      handed_then block_of stand xs (coded BL) _ _ p₁ (λ b p₂ i₂.
      handed_then block_of stand xs (coded BD) _ _ p₂ (λ c p₃ i₃.
      handed_then block_of stand xs (coded BD) _ _ p₃ (λ d p₄ i₄.
      handed_then block_of stand xs (coded BL) _ _ p₄ (λ e p₅ i₅.
      handed_then block_of stand xs (coded BD) _ _ p₅ (λ f p₆ i₆. colors_handed a b c d e f p₆))))))

-- ---- what is handed over of a block and its name
pub no_colors : (xs : List ℕ) (at : ℕ) → ColorsAt xs at []
unfolding times relay times_read pure
no_colors xs at = record { few = omega arith; end = at; read = refl }

pub no_fill : (xs : List ℕ) (at : ℕ) → FillAt xs at no_gradient
no_fill xs at = record { colors = no_colors xs at; absent = λ (e : false ≡ false). refl }

-- it is what the definition hands over, and its colours stand where the block's do
pub shown_is : (xs : List ℕ) (at : ℕ) (a : BlockValue) (name : Text) → ColorsAt xs at a.colors
    → (to : ℕ) × (shown_of (block_of at a) name ≡ gradient_of to (shown a name)) × FillAt xs to (shown a name)
shown_is xs at a name h = go (eqb a.flag 0) refl
  where
    go : (t : Bool) → eqb a.flag 0 ≡ t → (to : ℕ) × (shown_of (block_of at a) name ≡ gradient_of to (shown a name)) × FillAt xs to (shown a name)
    go true e = (0, rw (e, shown_of, shown), rw (e, shown) (no_fill xs 0))
    go false e = (at, rw (e, shown_of, shown), rw (e, shown) (record { colors = h; absent = λ (n : true ≡ false). absurd (true≢false n) }))

module _ (cap : ℕ) (few : cap ≤ 16) (v : Version) (γ : Payloads) where
  pub gradient_handed : (t : Bool) (p : Places) → Handed gradient_of (FillAt γ.main) ((gradient cap v t).read γ p) ((gradient_passed cap v t).read γ p)
  unfolding gradient gradient_read gradient_passed part_in ◌>>=◌ pure
  gradient_handed false p = (0, refl, no_fill γ.main 0)
  gradient_handed true p = go ((block cap).read γ.main p.main) ((block_passed cap).read γ.main p.main) (block_handed cap few γ.main p.main)
    where
      names : (at : ℕ) (b : BlockValue) → ColorsAt γ.main at b.colors → (o : Out Places Text)
          → Handed gradient_of (FillAt γ.main) (and_then o (λ name q. got (shown b name) q))
          (and_then o (λ name q. got (shown_of (block_of at b) name) q))
      names at b h (got name q) = let s = shown_is γ.main at b name h in (s.0, ap (λ (g : Option Gradient). got g q) s.1, s.2)
      names at b h (refused k q) = refl

      go : (o : Out ℕ BlockValue) (o' : Out ℕ Block) → Handed block_of (λ n b. ColorsAt γ.main n b.colors) o o'
          → Handed gradient_of (FillAt γ.main)
          (and_then (lifted main p o) (λ b q. and_then ((TV_field v).read γ q) (λ name r. got (shown b name) r)))
          (and_then (lifted main p o') (λ b q. and_then ((TV_field v).read γ q) (λ name r. got (shown_of b name) r)))
      go (got b n) o' h = rw h.1 (names h.0 b h.2 ((TV_field v).read γ (moved_in main p n)))
      go (refused k n) o' h = rw h refl

module _ (caps : Caps) (few : caps.colors ≤ 16) (v : Version) (γ : Payloads) where
  pub front_handed : (p : Places) → Handed front_of (λ n a. FillAt γ.main n a.gradient) ((front caps v).read γ p) ((front_passed caps v).read γ p)
  unfolding front named front_passed part_in ◌>>=◌ pure
  front_handed p =
      let t = leb 3 (release_number v) in
      go ((gradient caps.colors v t).read γ p) ((gradient_passed caps.colors v t).read γ p) (gradient_handed caps.colors few v γ t p)
    where
      names : (at : ℕ) (g : GradientValue) (a : PlaneValue) → FillAt γ.main at g → (o : Out Places Text)
          → Handed front_of (λ n a. FillAt γ.main n a.gradient)
          (and_then (and_then o (λ name q. got (named_as a name) q)) (λ n q. got (front_with g n) q))
          (and_then o (λ name q. got (record { gradient = gradient_of at g; plane = plane_as a; name = name }) q))
      names at g a h (got name q) = (at, refl, h)
      names at g a h (refused k q) = refl

      planes : (at : ℕ) (g : GradientValue) → FillAt γ.main at g → (o : Out Places PlaneValue)
          → Handed front_of (λ n a. FillAt γ.main n a.gradient)
          (and_then (and_then o (λ a r. and_then ((TV_field v).read γ r) (λ name q. got (named_as a name) q))) (λ n q. got (front_with g n) q))
          (and_then o (λ a r. and_then ((TV_field v).read γ r)
          (λ name q. got (record { gradient = gradient_of at g; plane = plane_as a; name = name }) q)))
      planes at g h (got a r) = names at g a h ((TV_field v).read γ r)
      planes at g h (refused k r) = refl

      go : (o : Out Places GradientValue) (o' : Out Places (Option Gradient)) → Handed gradient_of (FillAt γ.main) o o'
          → Handed front_of (λ n a. FillAt γ.main n a.gradient)
          (and_then o (λ g p₁. and_then
          (and_then (lifted main p₁ (plane.read γ.main p₁.main)) (λ a r. and_then ((TV_field v).read γ r) (λ name q. got (named_as a name) q)))
          (λ n q. got (front_with g n) q)))
          (and_then o' (λ g p₁. and_then (lifted main p₁ (plane.read γ.main p₁.main))
          (λ a r. and_then ((TV_field v).read γ r) (λ name q. got (record { gradient = g; plane = plane_as a; name = name }) q))))
      go (got g q) o' h = rw h.1 (planes h.0 g h.2 (lifted main q (plane.read γ.main q.main)))
      go (refused k q) o' h = rw h refl

  -- a front that is what was passed over
  pub front_is : (p : Places) (r : Result (Front × Places) (Refused Places)) → outcome r ≡ (front_passed caps v).read γ p
      → FrontIs γ.main ((front caps v).read γ p) r
  front_is p r e = subst (Handed front_of (λ n b. FillAt γ.main n b.gradient) ((front caps v).read γ p)) (sym e) (front_handed p)
