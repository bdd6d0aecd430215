-- A hatch body is laid out as specs/Layouts says where it is read, and read where it is so laid out. Assumes nothing.
use Rattle.std.specs.Prelude.{refl, List, ℕ}
use Rattle.bitcursor.specs.Format.{pure, ◌>>=◌, relay}
use Rattle.bitcursor.specs.Inputs.{Places, Payloads}
use Rattle.bitcursor.specs.Fields.{main, part_in}
use Rattle.text.specs.declared.version.Version.{Version}
use Rattle.text.specs.TextField.{TV_field}
use Rattle.hatch_format.specs.declared.Caps.{Caps}
use Rattle.hatch_format.specs.HandleRule.{Handles}
use Rattle.hatch_format.specs.Values.{Body}
use Rattle.hatch_format.specs.Layouts.{BodyLaid}
use Rattle.hatch_format.specs.Patterns.{rest}
use Rattle.hatch_format.specs.Gradients.{gradient}
use Rattle.bitcursor.specs.Fields.{PartIn}
use Rattle.hatch_format.specs.Hatch.{plane, hatch_read}
use Rattle.hatch_format.proofs.Gradients.{gradient_to, gradient_from}
use Rattle.hatch_format.proofs.Rests.{rest_to, rest_from}

-- of the main payload: what is laid out in one way is laid out in another that follows from it
in_main : {A : Type 0} {L M : List ℕ → A → ℕ → ℕ → Type 0} → ((xs : List ℕ) (a : A) (p q : ℕ) → L xs a p q → M xs a p q)
    → {γ : Payloads} {a : A} {p q : Places} → PartIn main L γ a p q → PartIn main M γ a p q
in_main f l = record { end = l.end; laid = f _ _ _ _ l.laid; moved = l.moved }

module _ (caps : Caps) (handles : Handles) (v : Version) where
  pub hatch_to : (γ : Payloads) (a : Body) (p q : Places) → (hatch_read caps handles v).lays γ a p q → BodyLaid caps handles v γ a p q
  unfolding hatch_read gradient plane rest part_in TV_field relay ◌>>=◌ pure
  hatch_to γ a p q l =
      let e = l.3.3.3.3 in
      rw (e.0, e.1) (
        l.1,
        gradient_to caps.colors v _ γ _ _ _ l.2,
        (l.3.1, l.3.2, (l.3.3.1, l.3.3.2, in_main (rest_to caps handles v) l.3.3.3.2)),
      )

  pub hatch_from : (γ : Payloads) (a : Body) (p q : Places) → BodyLaid caps handles v γ a p q → (hatch_read caps handles v).lays γ a p q
  unfolding hatch_read gradient plane rest part_in TV_field relay ◌>>=◌ pure
  hatch_from γ a p q l = (
    a.gradient,
    l.0,
    gradient_from caps.colors v _ γ _ _ _ l.1,
    (
      a.plane,
      l.2.0,
      l.2.1,
      (
        a.name,
        l.2.2.0,
        l.2.2.1,
        (
          a.rest,
          q,
          in_main (rest_from caps handles v) l.2.2.2,
          (refl, refl),
        ),
      ),
    ),
  )
