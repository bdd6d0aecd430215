-- What follows the pattern's name is laid out as specs/Layouts says where it is read, and read where it is so laid out. Assumes nothing.
use Rattle.std.specs.Prelude.{refl, List, ℕ}
use Rattle.bitcursor.specs.Format.{pure, ◌>>=◌, relay}
use Rattle.text.specs.declared.version.Version.{Version}
use Rattle.hatch_format.specs.declared.Caps.{Caps}
use Rattle.hatch_format.specs.HandleRule.{Handles}
use Rattle.hatch_format.specs.Values.{Rest}
use Rattle.hatch_format.specs.Layouts.{RestLaid}
use Rattle.hatch_format.specs.Counts.{listed_by}
use Rattle.hatch_format.specs.Paths.{path, paths}
use Rattle.hatch_format.specs.Values.{add_handles}
use Rattle.hatch_format.specs.Patterns.{tail, rest_read}
use Rattle.hatch_format.specs.Paths.{path, paths}
use Rattle.hatch_format.specs.Counts.{listed_by}
use Rattle.hatch_format.proofs.Paths.{each_by, path_to, path_from}

module _ (caps : Caps) (handles : Handles) (v : Version) where
  pub rest_to : (xs : List ℕ) (a : Rest) (p q : ℕ) → (rest_read caps handles v).lays xs a p q → RestLaid xs caps handles v a p q
  unfolding rest_read paths path listed_by tail relay ◌>>=◌ pure
  rest_to xs a p q l =
      let e = l.3.3.3.3 in
      rw (e.0, e.1) (
        l.1,
        l.2,
        (
          l.3.1,
          l.3.2,
          (
            l.3.3.1,
            (
              l.3.3.2.0,
              l.3.3.2.1,
              each_by add_handles (λ s b r t. path_to caps handles v s xs b r t) 0 _ _ _ l.3.3.2.2,
            ),
            l.3.3.3.2,
          ),
        ),
      )

  pub rest_from : (xs : List ℕ) (a : Rest) (p q : ℕ) → RestLaid xs caps handles v a p q → (rest_read caps handles v).lays xs a p q
  unfolding rest_read paths path listed_by tail relay ◌>>=◌ pure
  rest_from xs a p q l = (
    a.solid,
    l.0,
    l.1,
    (
      a.associative,
      l.2.0,
      l.2.1,
      (
        a.paths,
        l.2.2.0,
        (
          l.2.2.1.0,
          l.2.2.1.1,
          each_by add_handles (λ s b r t. path_from caps handles v s xs b r t) 0 _ _ _ l.2.2.1.2,
        ),
        (a.tail, q, l.2.2.2, (refl, refl)),
      ),
    ),
  )
