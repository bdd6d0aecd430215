-- The items of paths come one behind the other as the walk of specs/Walks has them. Assumes nothing.
use Rattle.std.specs.Prelude.{◌≡◌, refl, Bool, ℕ, suc, leb, length}
use Rattle.std.proofs.Common.{sym, subst, ◌∙◌}
use Rattle.std.proofs.Math.Path.{ap}
use Rattle.std.proofs.Math.Bool.{true, false}
use mathlib.Core.List.{List, [], ◌∷◌, ◌++◌}
use Rattle.bitcursor.specs.Reading.{Out, got, refused, and_then}
use Rattle.bitcursor.specs.Format.{Format, pure, ◌>>=◌, relay}
use Rattle.hatch_format.specs.declared.Caps.{Caps}
use Rattle.hatch_format.specs.Values.{Edge, Segments, polyline, edges, Path, polylined}
use Rattle.hatch_format.specs.Counts.{times}
use Rattle.hatch_lists.specs.declared.Head.{Head}
use Rattle.hatch_lists.specs.declared.Item.{Item}
use Rattle.hatch_lists.specs.Items.{no_item, item_size, gathered, edge_item, edge_items, path_items, segment_items}
use Rattle.hatch_lists.specs.Lists.{Lists, lists, word, entry, count}
use Rattle.hatch_lists.specs.Within.{SegmentsWithin}
use Rattle.hatch_lists.specs.Edges.{edge}
use Rattle.hatch_lists.specs.Paths.{segments, segments_read, path, path_read}
use Rattle.hatch_lists.specs.Steps.{Step, next, broken, and_next, a_word, a_count}
use Rattle.hatch_lists.specs.Steps.{vertices_step, polyline_step, edges_step, head_by, handles_step, edge_step}
use Rattle.hatch_lists.specs.Walks.{Left, left_of, passing, stepping, prepend, Walk, item_then, times_then, parts_then, path_then}
use Rattle.hatch_lists.specs.Says.{left, summary, Says, with_numbers, SaysWords, says_word, says_count, pass_none}
use Rattle.hatch_lists.specs.SaysItems.{itself, says_edge, vertices_item, says_vertices}
use Rattle.hatch_lists.specs.Follows.{items_then, Before, prepend_both, before_item, before_then, before_map, before_reads, before_times}

-- ---- the same items, or the same walk, said in another way
pub before_as : {A : Type 0} (ρ τ : A → List Item) (f : Format lists A) (W : Walk → Walk)
    → ((a : A) (p q : Lists) → f.read tt p ≡ got a q → τ a ≡ ρ a) → Before ρ f W → Before τ f W
before_as {A} ρ τ f W same h = record { at = λ k rest e p. go k p (f.read tt p) refl ∙ h.at k rest e p }
  where
    go : (k : Lists → Step Left (List Item)) (p : Lists) (o : Out Lists A) → f.read tt p ≡ o → items_then τ o k ≡ items_then ρ o k
    go k p (got a q) e = ap (λ (is : List Item). prepend is (k q)) (same a p q e)
    go k p (refused n q) e = refl

pub before_by : {A : Type 0} {ρ : A → List Item} {f : Format lists A} (U W : Walk → Walk) → ((rest : Walk) (l : Left) → U rest l ≡ W rest l)
    → Before ρ f U → Before ρ f W
before_by U W same h = record { at = λ k rest e p. h.at k rest e p ∙ same rest (left p) }

-- ---- words alone
abbrev pub words_then : {A : Type 0} → (List ℕ → Step (List ℕ) A) → (A → Walk) → Walk
words_then step rest l = and_next (with_numbers l.numbers (step l.words)) rest

module _ {A B : Type 0} (τ : B → List Item) (f : Format lists A) (g : A → Format lists B) (step : List ℕ → Step (List ℕ) A) (W : A → Walk → Walk) where
  pub before_words : SaysWords f step → ((a : A) → Before τ (g a) (W a)) → Before τ (f >>= g) (λ rest. words_then step (λ a. W a rest))
  unfolding ◌>>=◌
  before_words h i = record { at = λ k rest e p. go k rest e p (f.read tt p) (h.at p) }
    where
      go : (k : Lists → Step Left (List Item)) (rest : Walk) → ((q : Lists) → k q ≡ rest (left q)) → (p : Lists) (o : Out Lists A)
          → summary (λ (a : A). a) o ≡ with_numbers (length p.numbers) (step p.words)
          → items_then τ (and_then o (λ a r. (g a).read tt r)) k ≡ words_then step (λ a. W a rest) (left p)
      go k rest e p (got a q) h = (i a).at k rest e q ∙ ap (λ (s : Step Left A). and_next s (λ a. W a rest)) h
      go k rest e p (refused n q) h = ap (λ (s : Step Left A). and_next s (λ a. W a rest)) h

pub before_pure : {A : Type 0} (a : A) → Before (λ (b : A). []) (pure a) (λ rest. rest)
unfolding pure
before_pure a = record { at = λ k rest e p. none (k p) ∙ e p }
  where
    none : (s : Step Left (List Item)) → prepend [] s ≡ s
    none (next ks l) = refl
    none broken = refl

module _ (caps : Caps) where
  -- ---- a path behind its flags
  abbrev path_of : ℕ → Segments → ℕ → Path
  path_of flags a n = record { flags = flags; segments = a; boundary_handles = n }

  abbrev handled : ℕ → Segments → Format lists Path
  handled flags a = count caps.boundary_handles >>= λ n. pure (path_of flags a n)

  abbrev body : Bool → ℕ → Format lists Path
  body b flags = segments caps b >>= handled flags

  abbrev head_then : (List ℕ → Step (List ℕ) Head) → Walk → Walk
  head_then step rest l = and_next (stepping (λ h. h.item) step l) (λ h r. prepend (h.item ∷ []) (parts_then caps h.parts rest r))

  -- ---- a polyline: its vertices, then a handle count without an item
  abbrev quiet : Walk → Walk
  quiet rest = words_then (a_count caps.boundary_handles) (λ n. rest)

  quiet_handles : (flags : ℕ) (a : Segments) → Before (λ (b : Path). []) (handled flags a) quiet
  quiet_handles flags a =
      before_words (λ (b : Path). []) (count caps.boundary_handles) _ (a_count caps.boundary_handles) (λ n rest. rest)
      (says_count caps.boundary_handles) (λ n. before_pure (path_of flags a n))

  polyline_walk : (rest : Walk) (l : Left) → item_then (vertices_step caps) (quiet rest) l ≡ head_then (polyline_step caps) rest l
  polyline_walk rest l = go (vertices_step caps l.words)
    where
      n : ℕ
      n = l.numbers

      handles_of : List ℕ → Step (List ℕ) ℕ
      handles_of = a_count caps.boundary_handles

      head_of : Item → Head
      head_of i = record { item = i; parts = 0 }

      vertices_first : Step (List ℕ) Item → Step Left (List Item)
      vertices_first o = and_next (passing itself n o) (λ i r. prepend (i ∷ []) (quiet rest r))

      words_first : Step (List ℕ) Item → Step Left (List Item)
      words_first o =
          and_next (passing (λ h. h.item) n (and_next o (λ i vs. and_next (handles_of vs) (λ m. next (head_of i)))))
          (λ h r. prepend (h.item ∷ []) (parts_then caps h.parts rest r))

      inner : (i : Item) (vs : List ℕ) (b : Bool) → leb (item_size i) n ≡ b → (o : Step (List ℕ) ℕ) → handles_of vs ≡ o
          → vertices_first (next i vs) ≡ words_first (next i vs)
      inner i vs true e (next m us) f = rw (f, e, f)
      inner i vs true e broken f = rw (e, f)
      inner i vs false e (next m us) f = rw (f, e)
      inner i vs false e broken f = rw (e, f)

      go : (o : Step (List ℕ) Item) → vertices_first o ≡ words_first o
      go broken = refl
      go (next i vs) = inner i vs (leb (item_size i) n) refl (handles_of vs) refl

  polyline_is : (flags : ℕ) (a : Path) (p q : Lists) → (body true flags).read tt p ≡ got a q → path_items a ≡ vertices_item caps a.segments ∷ []
  unfolding segments relay ◌>>=◌ pure
  polyline_is flags a p q e = go a.segments within
    where
      l : (body true flags).lays tt a p q
      l = (body true flags).sound tt a p q e

      within : SegmentsWithin caps true a.segments
      within = subst (λ (b : Path). SegmentsWithin caps true b.segments) (sym l.3.3.0) l.2.0

      go : (b : Segments) → SegmentsWithin caps true b → segment_items b ≡ vertices_item caps b ∷ []
      go (polyline bulge closed vertices) w = refl
      go (edges es) w = absurd w

  before_polyline : (flags : ℕ) → Before path_items (body true flags) (head_then (polyline_step caps))
  unfolding ◌>>=◌ pure
  before_polyline flags =
      before_by (λ rest. item_then (vertices_step caps) (quiet rest)) (head_then (polyline_step caps)) polyline_walk
      (before_as (λ a. vertices_item caps a.segments ∷ []) path_items (body true flags) (λ rest. item_then (vertices_step caps) (quiet rest))
      (polyline_is flags)
      (before_then (λ a. vertices_item caps a ∷ []) (λ b. []) (λ b. vertices_item caps b.segments ∷ []) (segments caps true) (handled flags)
      (item_then (vertices_step caps)) quiet (before_item (vertices_item caps) (segments caps true) (vertices_step caps) (says_vertices caps))
      (quiet_handles flags) same))
    where
      same : (a : Segments) (b : Path) (p q : Lists) → (handled flags a).read tt p ≡ got b q
          → vertices_item caps b.segments ∷ [] ≡ vertices_item caps a ∷ [] ++ []
      same a b p q e = let l = (handled flags a).sound tt b p q e in ap (λ (c : Path). vertices_item caps c.segments ∷ []) l.3.0

  -- ---- edges: their count without numbers, each edge, then a handle count without numbers
  abbrev edges_of : Segments → List Item
  edges_of (polyline bulge closed vertices) = []
  edges_of (edges es) = no_item ∷ gathered (λ a. edge_item a ∷ []) es

  says_handles : Says (λ (n : ℕ). no_item) (count caps.boundary_handles) (stepping itself (handles_step caps))
  says_handles = record { at = λ p. go p ((count caps.boundary_handles).read tt p) ((says_count caps.boundary_handles).at p) }
    where
      handles_of : List ℕ → Step (List ℕ) ℕ
      handles_of = a_count caps.boundary_handles

      behind : (n : ℕ) (o : Step (List ℕ) ℕ)
          → and_next (with_numbers n o) (λ m l. next no_item l) ≡ passing itself n (and_next o (λ m. next no_item))
      behind n (next m ws) = sym (pass_none no_item ws n)
      behind n broken = refl

      go : (p : Lists) (o : Out Lists ℕ) → summary (λ (n : ℕ). n) o ≡ with_numbers (length p.numbers) (handles_of p.words)
          → summary (λ (n : ℕ). no_item) o ≡ stepping itself (handles_step caps) (left p)
      go p (got m q) e = ap (λ (s : Step Left ℕ). and_next s (λ m l. next no_item l)) e ∙ behind (length p.numbers) (handles_of p.words)
      go p (refused m q) e = ap (λ (s : Step Left ℕ). and_next s (λ m l. next no_item l)) e ∙ behind (length p.numbers) (handles_of p.words)

  abbrev edges_then : ℕ → Walk → Walk
  edges_then n rest l = prepend (no_item ∷ []) (times_then n (item_then (edge_step caps)) rest l)

  counted_edges : (n : ℕ) → Before edges_of (times n (edge caps) >>= λ es. pure (edges es)) (edges_then n)
  unfolding ◌>>=◌ pure
  counted_edges n = record { at = λ k rest e p. go k ((times n (edge caps)).read tt p) ∙ ap (prepend (no_item ∷ [])) (run.at k rest e p) }
    where
      run : Before (gathered (λ a. edge_item a ∷ [])) (times n (edge caps)) (times_then n (item_then (edge_step caps)))
      run = before_times (λ a. edge_item a ∷ []) (edge caps) (item_then (edge_step caps)) n (before_item edge_item (edge caps) (edge_step caps)
          (says_edge caps))

      go : (k : Lists → Step Left (List Item)) (o : Out Lists (List Edge))
          → items_then edges_of (and_then o (λ es r. got (edges es) r)) k ≡ prepend (no_item ∷ []) (items_then (gathered (λ a. edge_item a ∷ [])) o k)
      go k (got es q) = sym (prepend_both (no_item ∷ []) (gathered (λ a. edge_item a ∷ []) es) (k q))
      go k (refused m q) = refl

  before_segments : Before edges_of (segments caps false) (λ rest. words_then (a_count caps.edges) (λ n. edges_then n rest))
  unfolding segments segments_read relay
  before_segments =
      before_reads
      (before_words edges_of (count caps.edges) (λ n. times n (edge caps) >>= λ es. pure (edges es)) (a_count caps.edges) edges_then
      (says_count caps.edges) counted_edges)
      (λ p. refl)

  edge_items_lem : (es : List Edge) → edge_items es ≡ gathered (λ a. edge_item a ∷ []) es ++ (no_item ∷ [])
  edge_items_lem [] = refl
  edge_items_lem (a ∷ es) = ap (λ (is : List Item). edge_item a ∷ is) (edge_items_lem es)

  edges_are : (flags : ℕ) (a : Path) (p q : Lists) → (body false flags).read tt p ≡ got a q → path_items a ≡ edges_of a.segments ++ (no_item ∷ [])
  unfolding segments relay ◌>>=◌ pure
  edges_are flags a p q e = go a.segments within
    where
      l : (body false flags).lays tt a p q
      l = (body false flags).sound tt a p q e

      within : SegmentsWithin caps false a.segments
      within = subst (λ (b : Path). SegmentsWithin caps false b.segments) (sym l.3.3.0) l.2.0

      go : (b : Segments) → SegmentsWithin caps false b → segment_items b ≡ edges_of b ++ (no_item ∷ [])
      go (polyline bulge closed vertices) w = absurd w
      go (edges es) w = ap (λ (is : List Item). no_item ∷ is) (edge_items_lem es)

  edges_walk : (rest : Walk) (l : Left)
      → words_then (a_count caps.edges) (λ n. edges_then n (item_then (handles_step caps) rest)) l ≡ head_then (edges_step caps) rest l
  edges_walk rest l = go (a_count caps.edges l.words)
    where
      head_of : ℕ → Head
      head_of n = record { item = no_item; parts = suc n }

      behind : Head → Left → Step Left (List Item)
      behind h r = prepend (h.item ∷ []) (parts_then caps h.parts rest r)

      go : (o : Step (List ℕ) ℕ) → and_next (with_numbers l.numbers o) (λ n. edges_then n (item_then (handles_step caps) rest))
          ≡ and_next (passing (λ h. h.item) l.numbers (and_next o (λ n. next (head_of n)))) behind
      go (next n ws) = sym (ap (λ (s : Step Left Head). and_next s behind) (pass_none (head_of n) ws l.numbers))
      go broken = refl

  before_edges : (flags : ℕ) → Before path_items (body false flags) (head_then (edges_step caps))
  unfolding ◌>>=◌ pure
  before_edges flags =
      before_by (λ rest. counts (item_then (handles_step caps) rest)) (head_then (edges_step caps)) edges_walk
      (before_as (λ a. edges_of a.segments ++ (no_item ∷ [])) path_items (body false flags) (λ rest. counts (item_then (handles_step caps) rest))
      (edges_are flags)
      (before_then edges_of (λ b. no_item ∷ []) (λ b. edges_of b.segments ++ (no_item ∷ [])) (segments caps false) (handled flags)
      counts (item_then (handles_step caps)) before_segments handles same))
    where
      counts : Walk → Walk
      counts rest = words_then (a_count caps.edges) (λ n. edges_then n rest)

      handles : (a : Segments) → Before (λ (b : Path). no_item ∷ []) (handled flags a) (item_then (handles_step caps))
      handles a =
          before_map (path_of flags a) (λ n. no_item ∷ []) (λ b. no_item ∷ []) (count caps.boundary_handles) (item_then (handles_step caps)) (λ n. refl)
          (before_item (λ n. no_item) (count caps.boundary_handles) (handles_step caps) says_handles)

      same : (a : Segments) (b : Path) (p q : Lists) → (handled flags a).read tt p ≡ got b q
          → edges_of b.segments ++ (no_item ∷ []) ≡ edges_of a ++ (no_item ∷ [])
      same a b p q e = let l = (handled flags a).sound tt b p q e in ap (λ (c : Path). edges_of c.segments ++ (no_item ∷ [])) l.3.0

  -- ---- a path
  before_body : (b : Bool) (flags : ℕ) → Before path_items (body b flags) (head_then (head_by caps b))
  before_body true flags = before_polyline flags
  before_body false flags = before_edges flags

  path_walk : (rest : Walk) (l : Left) → words_then a_word (λ flags. head_then (head_by caps (polylined flags)) rest) l ≡ path_then caps rest l
  path_walk rest l = go l.words
    where
      go : (ws : List ℕ) → words_then a_word (λ flags. head_then (head_by caps (polylined flags)) rest) (left_of ws l.numbers)
          ≡ path_then caps rest (left_of ws l.numbers)
      go [] = refl
      go (w ∷ ws) = refl

  pub before_path : Before path_items (path caps) (path_then caps)
  unfolding path path_read relay
  before_path =
      before_reads
      (before_by (λ rest. words_then a_word (λ flags. head_then (head_by caps (polylined flags)) rest)) (path_then caps) path_walk
      (before_words path_items (entry word) (λ flags. body (polylined flags) flags) a_word (λ flags. head_then (head_by caps (polylined flags))) says_word
      (λ flags. before_body (polylined flags) flags)))
      (λ p. refl)
