-- Calls as cases show them: a text, and a hatch from bit 0. Assumes nothing.
use Rattle.std.specs.Prelude.{List, [], ◌∷◌, ℕ, ℤ, pos}
use Rattle.loads.specs.Bits.{bit}
use Rattle.text.specs.declared.Text.{Text}
use Rattle.hatch_format.specs.Caps.{document_caps}
use Rattle.hatch_format.specs.HandleRule.{in_payload}
use Rattle.hatch_format.specs.Values.{Body}
use Rattle.hatch_format.specs.Call.{Strings, hatch_call}
use Rattle.cases.specs.Shown.{Shown, shown_both}

-- a text's unit width, position and unit count, and 1 where it is padded
abbrev pub numbers_of : Text → List ℤ
numbers_of t = pos t.width ∷ (pos t.position ∷ (pos t.count ∷ (pos (bit t.padded) ∷ [])))

-- a hatch call with its body shown by f, its caps document 01's and its handles in the payload: release, payload, strings, lengths of the lent
-- words and numbers
abbrev pub hatch_call_shown : (Body → List ℤ) → ℕ → List ℕ → Strings → ℕ → ℕ → Shown
hatch_call_shown f release xs strings nw nn =
    shown_both f
    (hatch_call
    (record {
      release = release;
      main = xs;
      start = 0;
      strings = strings;
      caps = document_caps;
      handles = in_payload;
      words = nw;
      numbers = nn;
    }))
