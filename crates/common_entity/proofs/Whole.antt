-- The five parts together read what the prefix's definition reads, and their numbers are as the record asks: of parts that are read one behind the
-- other, a part that was not read with numbers of 0. Assumes nothing.
use Rattle.std.specs.Prelude.{◌≡◌, refl, Bool, true, false, ◌&&◌, List, [], ◌∷◌, ℕ, ◌^◌, ◌<◌, None}
use Rattle.std.proofs.Common.{ap, ◌∙◌, arith}
use Rattle.bitcursor.specs.declared.Refusal.{Refusal}
use Rattle.bitcursor.specs.Reading.{Out, got, refused}
use Rattle.bitcursor.specs.Code.{give}
use Rattle.bitcursor.specs.Codes.{signed}
use Rattle.sequence.proofs.Steps.{then_read, value_of, resume, first, next}
use Rattle.prefix_format.specs.declared.table.Row.{Row}
use Rattle.prefix_format.specs.Prefix.{prefix_by}
use Rattle.prefix_parts.specs.declared.Head.{Head}
use Rattle.prefix_parts.specs.declared.Modes.{Modes}
use Rattle.prefix_parts.specs.declared.Colours.{Colours}
use Rattle.prefix_parts.specs.declared.Styles.{Styles}
use Rattle.prefix_parts.specs.declared.Tail.{Tail}
use Rattle.prefix_parts.specs.Parts.{head, modes, colours, styles, tail, record_of, in_parts}
use Rattle.prefix_parts.specs.InParts.{parts_read}
use Rattle.common_entity.proofs.Numbers.{InRange, PresentByColour, head_small, modes_small, colours_small, colours_present, styles_small, tail_small}

-- ---- parts that were not read
abbrev pub no_head : Head
no_head = record { had_extended_data = false; had_graphics = false; data_end_bits = None }

abbrev pub no_modes : Modes
no_modes = record { raw_mode = 0; num_reactors = 0; no_xdictionary = false; binary_chain = false; by_layer_ltype = false; nolinks = false }

abbrev pub no_colours : Colours
no_colours = record { color_raw = 0; color_rgb = None; color_alpha = None }

abbrev pub no_styles : Styles
no_styles = record { ltype_scale = 0; ltype_flags = 0; plotstyle_flag = 0; material_flag = 0; shadow_flags = 0 }

abbrev pub no_tail : Tail
no_tail = record { visual_style_flags = false ∷ (false ∷ (false ∷ [])); invisibility = signed 16 0; lineweight = 0 }

-- what holds of a part that was not read and of each that is read, holds
of_first : {A : Type 0} (P : A → Type 0) (absent : A) (o : Out ℕ A) → P absent → ((a : A) (q : ℕ) → got a q ≡ o → P a) → P (value_of absent o)
of_first P absent (got a q) z each = each a q refl
of_first P absent (refused r q) z each = z

pub of_next : {A B : Type 0} (P : A → Type 0) (absent : A) (f : ℕ → Out ℕ A) (prior : Out ℕ B) → P absent → ((p : ℕ) (a : A) (q : ℕ) → got a q ≡ f p → P a)
    → P (value_of absent (then_read f prior))
of_next P absent f (got b p) z each = of_first P absent (f p) z (each p)
of_next P absent f (refused r p) z each = z

black : (row : Row) → PresentByColour row no_colours
black row = record { rgb = none row.color_flags; alpha = none row.color_flags }
  where
    none : (t : Bool) → false ≡ t && false
    none true = refl
    none false = refl

module _ (row : Row) (xs : List ℕ) (p : ℕ) where
  -- the readings of the parts
  abbrev pub h : Out ℕ Head
  h = (head row).read xs p

  abbrev pub m : Out ℕ Modes
  m = then_read ((modes row).read xs) h

  abbrev pub c : Out ℕ Colours
  c = then_read ((colours row).read xs) m

  abbrev pub t : Out ℕ Styles
  t = then_read ((styles row).read xs) c

  abbrev pub e : Out ℕ Tail
  e = then_read ((tail row).read xs) t

  module _ (h₀ : Head) (m₀ : Modes) (c₀ : Colours) (t₀ : Styles) where
    pub prefix_reads : (prefix_by row).read xs p
        ≡ resume xs (λ w. give (record_of (value_of h₀ h) (value_of m₀ m) (value_of c₀ c) (value_of t₀ t) w)) e
    unfolding in_parts
    prefix_reads =
        parts_read row xs p ∙ first xs (head row) _ p refl ∙ next xs (λ a. modes row) _ h₀ h refl ∙ next xs (λ a. colours row) _ m₀ m refl
        ∙ next xs (λ a. styles row) _ c₀ c refl ∙ next xs (λ a. tail row) _ t₀ t refl

    -- the record is what was laid out
    pub whole : {l : Tail} {q : ℕ} → e ≡ got l q
        → (prefix_by row).read xs p ≡ got (record_of (value_of h₀ h) (value_of m₀ m) (value_of c₀ c) (value_of t₀ t) l) q
    unfolding give
    whole l = prefix_reads ∙ ap (resume xs (λ w. give (record_of (value_of h₀ h) (value_of m₀ m) (value_of c₀ c) (value_of t₀ t) w))) l

  pub stopped : {r : Refusal} {q : ℕ} → e ≡ refused r q → (prefix_by row).read xs p ≡ refused r q
  stopped l =
      prefix_reads no_head no_modes no_colours no_styles
      ∙ ap (resume xs (λ w. give (record_of (value_of no_head h) (value_of no_modes m) (value_of no_colours c) (value_of no_styles t) w))) l

  -- every number is in its field's range
  pub in_range : InRange (value_of no_head h) (value_of no_modes m) (value_of no_colours c) (value_of no_styles t) (value_of no_tail e)
  in_range =
      let Of_modes = λ (x : Modes). (x.raw_mode < 2 ^ 8) × (x.num_reactors < 2 ^ 32) in
      let Of_tail = λ (x : Tail). (v : ℕ) × (v < 2 ^ 16) × (x.invisibility ≡ signed 16 v) in
      let a = of_next Of_modes no_modes _ h (omega arith, omega arith) (λ o v q k. modes_small row xs o k) in
      record {
        end = of_first _ no_head h tt (λ v q k. head_small row xs p k);
        mode = a.0;
        reactors = a.1;
        colour = of_next (λ (x : Colours). x.color_raw < 2 ^ 16) no_colours _ m (omega arith) (λ o v q k. (colours_small row xs o k).0);
        rgb = of_next _ no_colours _ m tt (λ o v q k. (colours_small row xs o k).1);
        alpha = of_next _ no_colours _ m tt (λ o v q k. (colours_small row xs o k).2);
        linetype = of_next (λ (x : Styles). x.ltype_flags < 2 ^ 8) no_styles _ c (omega arith) (λ o v q k. (styles_small row xs o k).0);
        plot = of_next (λ (x : Styles). x.plotstyle_flag < 2 ^ 8) no_styles _ c (omega arith) (λ o v q k. (styles_small row xs o k).1);
        material = of_next (λ (x : Styles). x.material_flag < 2 ^ 8) no_styles _ c (omega arith) (λ o v q k. (styles_small row xs o k).2);
        shadow = of_next (λ (x : Styles). x.shadow_flags < 2 ^ 8) no_styles _ c (omega arith) (λ o v q k. (styles_small row xs o k).3);
        invisible = of_next Of_tail no_tail _ t (0, omega arith, refl) (λ o v q k. (tail_small row xs o k).0);
        weight = of_next (λ (x : Tail). x.lineweight < 2 ^ 8) no_tail _ t (omega arith) (λ o v q k. (tail_small row xs o k).1);
      }

  pub present_by_colour : PresentByColour row (value_of no_colours c)
  present_by_colour = of_next (PresentByColour row) no_colours _ m (black row) (λ o v q k. colours_present row xs o k)

  -- the same of parts that were read so
  module _ (h' : Out ℕ Head) (m' : Out ℕ Modes) (c' : Out ℕ Colours) (t' : Out ℕ Styles) (e' : Out ℕ Tail) (eh : h' ≡ h)
      (em : m' ≡ then_read ((modes row).read xs) h') (ec : c' ≡ then_read ((colours row).read xs) m') (et : t' ≡ then_read ((styles row).read xs) c')
      (ee : e' ≡ then_read ((tail row).read xs) t') where
    pub parts_asked : InRange (value_of no_head h') (value_of no_modes m') (value_of no_colours c') (value_of no_styles t') (value_of no_tail e')
        × PresentByColour row (value_of no_colours c')
    parts_asked = rw (ee, et, ec, em, eh) (in_range, present_by_colour)

    pub parts_whole : (h₀ : Head) (m₀ : Modes) (c₀ : Colours) (t₀ : Styles) {l : Tail} {q : ℕ} → e' ≡ got l q
        → (prefix_by row).read xs p ≡ got (record_of (value_of h₀ h') (value_of m₀ m') (value_of c₀ c') (value_of t₀ t') l) q
    parts_whole h₀ m₀ c₀ t₀ l = rw (et, ec, em, eh) (whole h₀ m₀ c₀ t₀ (rw (ee, et, ec, em, eh) at l))

    pub parts_stopped : {r : Refusal} {q : ℕ} → e' ≡ refused r q → (prefix_by row).read xs p ≡ refused r q
    parts_stopped l = stopped (rw (ee, et, ec, em, eh) at l)
