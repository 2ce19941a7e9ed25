-- What each call does to a state in order.
use Rattle.std.proofs.Common.{◌≡◌, ℕ, ◌<◌, ◌≤◌, Bool, true, false, ◌&&◌, eqb, ltb, leb, List, [], ◌∷◌, length, take, drop, set, Some, None, Option, sym, refl, ap, ◌∙◌, subst, arith, length-drop, length-take}
use Rattle.std.proofs.lemmas.List.{get_or-set_same, get_or-set_other, length-set}
use Rattle.std.proofs.lemmas.Bool.{ltb-true, leb-true, eqb-true, eq-eqb, le-leb, and_parts, and_from}
use Rattle.rows.specs.declared.row.Row.{Row}
use Rattle.rows.specs.Kind as kinds
use Rattle.rows.specs.Kind.{Kinds}
use Rattle.rows.specs.Ours.{LawfulKinds}
use Rattle.pool.specs.declared.node.Node.{Node}
use Rattle.pool.specs.Memory.{Memory, node_at, count_at, start_at, run_at, run_of}
use Rattle.pool.specs.Counts.{names, times, Held}
use Rattle.pool.specs.Order.{Ordered, Keeps}
use Rattle.pool.specs.Sharing as sharing
use Rattle.pool.specs.Building.{built}
use Rattle.encodings.specs.declared.fields.Fields.{Fields}
use Rattle.encodings.specs.Meaning.{Encodings, FlatIn, LawfulSet, flat_fields}
use Rattle.encodings.specs.Rows.{fields_of, slots_of, shapes_of, SlotsFit, WholeAt, AllWhole}
use Rattle.encodings.proofs.Keeping.{rows_kept}
use Rattle.encodings.proofs.Flats.{flat_rows_of}
use Rattle.encodings.proofs.Wholes.{all_whole}
use Rattle.planner.specs.declared.call.Refusal.{Refusal}
use Rattle.planner.specs.declared.call.Refusal.TheVariants.{Line, RootRange, RootEmpty, RootTaken, Field, NotFlat}
use Rattle.planner.specs.Calls.{Told, make, assemble, share, release, read, Said, done, rows, refused}
use Rattle.planner.specs.Called.{State, root_at, with_root, parsed_rows, in_range, sized, rows_made, placed, made, shared, emptied, handed, read_out, called}
use Rattle.pool.proofs.Counted.{heights_falling, held_used}
use Rattle.pool.proofs.Reached.{counts_exact}
use Rattle.pool.proofs.Spared.{retained_change}
use Rattle.pool.proofs.Releasing.{release_change}
use Rattle.pool.proofs.Building.{Built, Outcome, built_is}
use Rattle.planner.proofs.Ways.{bool_both, option_both}
use Rattle.encodings.proofs.Answering.{ordered_like}
use Rattle.planner.proofs.Holders.{names_at, names_emptied}
use Rattle.planner.proofs.Holding.{held_kept, kept_whole}
use Rattle.planner.proofs.Parsing.{rows_parsed}
use Rattle.planner.proofs.Good.{Good, Step, same_spares, spared, rows_held, refused_step, root_held, held_whole, below_whole, placed_step, rooted}
use Rattle.planner.proofs.Assembling.{assemble_step}

module _ (ks : Kinds) (lawful : LawfulKinds ks) (es : Encodings) (means : LawfulSet ks es) (s : State) (good : Good ks es s) where
  abbrev m : Memory
  m = s.memory

  abbrev hs : List ℕ
  hs = names s.roots

  flat : FlatIn ks es
  flat = means.lawful.flat means.has_flat

  -- ---- making
  module _ (root kind n : ℕ) (bytes : List ℕ) where
    abbrev call : Told
    call = make root kind n bytes

    -- a Flat array that was built is whole
    built_whole : (q : Memory) (rs : List Row) (i : ℕ) → ks.has kind ≡ true → n ≤ 1024 → Built ks m q hs kind n rs i → WholeAt ks es q i
    built_whole q rs i known few b =
        let nd : Node = node_at q i in
        let f : Fields = fields_of nd in
        let fit : flat_fields ks f ≡ true
        = and_from _ _
        (and_from _ _ (ap (λ (x : ℕ). ks.has x) b.kind_is ∙ known)
        (and_from _ _ (le-leb nd.len 1024 (omega (arith, b.len_is))) (le-leb nd.arity 8 (omega (arith, b.arity_is)))))
        (eq-eqb _ _ b.parameter_is) in
        let none : slots_of nd ≡ [] = ap (λ (x : ℕ). take x nd.slots) b.arity_is in
        let shapes : SlotsFit es f (shapes_of q [])
        = and_from _ _ (flat.count f b.encoding_is ∙ eq-eqb _ _ b.arity_is) (and_from _ _ (flat.kinds f [] b.encoding_is) (flat.lengths f [] b.encoding_is)) in
        record {
          known = ap (λ (x : ℕ). es.has x) b.encoding_is ∙ means.has_flat;
          fields_fit = flat.fields f b.encoding_is ∙ fit;
          slots_fit = subst (λ (ss : List (Option ℕ)). SlotsFit es f (shapes_of q ss)) (sym none) shapes;
          no_more = ap (λ (x : ℕ). names (drop x nd.slots)) b.arity_is ∙ ap (λ (ss : List (Option ℕ)). names ss) b.slots_is;
          flat_run = λ e. b.run_is ∙ sym (ap (λ (x : ℕ). (ks.kind x).words nd.len) b.kind_is ∙ ap (λ (x : ℕ). (ks.kind kind).words x) b.len_is);
          flat_tidy = λ e. ap (λ (x : ℕ). (ks.kind x).tidy nd.len (run_of q i)) b.kind_is ∙ ap (λ (x : ℕ). (ks.kind kind).tidy x (run_of q i)) b.len_is ∙ b.tidy_is;
          bare = λ ne. absurd (ne b.encoding_is);
        }

    made_step : (rs : List Row) → root < 32 → root_at s root ≡ None → ks.has kind ≡ true → n ≤ 1024 → parsed_rows (ks.kind kind) n bytes ≡ Some rs → (i : ℕ) (q : Memory) → Built ks m q hs kind n rs i → Step ks es s call done (with_root s q root (Some i))
    made_step rs low empty known few parsed i q b =
        let none : slots_of (node_at q i) ≡ [] = ap (λ (x : ℕ). take x (node_at q i).slots) b.arity_is in
        let whole : AllWhole ks es q i
        = all_whole ks es q (i ∷ hs) b.change.ordered i (built_whole q rs i known few b)
        (λ c h. let z : 0 < times c (names []) = subst (λ (ss : List (Option ℕ)). 0 < times c (names ss)) none h in absurd (omega arith)) in
        let r = rooted ks es s good root i q low empty b.change whole in
        record {
          good = r.good;
          effect = (low, (i, r.there));
          makes =
              r.rows
              ∙ flat_rows_of ks es q i b.encoding_is
              ∙ ap (λ (x : ℕ). Some (kinds.rows (ks.kind x) (node_at q i).len (run_of q i))) b.kind_is
              ∙ ap (λ (x : ℕ). Some (kinds.rows (ks.kind kind) x (run_of q i))) b.len_is
              ∙ ap (λ (l : List Row). Some l) b.rows_is
              ∙ sym parsed;
          shares = tt;
          reads = tt;
          unchanged = tt;
          others = r.others;
        }

    pub make_step : Step ks es s call (made ks s root kind n bytes).0 (made ks s root kind n bytes).1
    make_step =
        let Does : Said × State → Type 0 = λ p. Step ks es s call p.0 p.1 in
        let no : (e : Refusal) → Does (refused e, s) = refused_step ks es s good call in
        let work : List Row → Said × State = λ rs. placed s root (built ks m kind n rs) in
        let fields : Option (List Row) → Said × State = λ o. elim o [ None ↦ (refused Field, s) | Some rs ↦ work rs ] in
        let taken : Option ℕ → Said × State = λ o. elim o [ None ↦ fields (rows_made ks kind n bytes) | Some k ↦ (refused RootTaken, s) ] in
        let range : Bool → Said × State = λ b. elim b [ true ↦ taken (root_at s root) | false ↦ (refused RootRange, s) ] in
        bool_both (sized ks kind n bytes) (range (ltb root 32)) (refused Line, s) Does
        (λ size. bool_both (ltb root 32) (taken (root_at s root)) (refused RootRange, s) Does
        (λ low. option_both (root_at s root) (fields (rows_made ks kind n bytes)) (λ k. (refused RootTaken, s)) Does
        (λ empty. option_both (rows_made ks kind n bytes) (refused Field, s) work Does
        (λ e. no Field)
        (λ rs e.
        let r = rows_made_is rs e in
        let w = rows_parsed (ks.kind kind) (lawful.lawful kind) n bytes rs r.2 in
        placed_step ks es s good call root (λ x q. Outcome ks m hs kind n rs x q) (made_step rs (ltb-true root 32 low) empty r.0 r.1 r.2) (λ x q same. same)
        (built ks m kind n rs) (built_is ks m hs kind n rs (lawful.lawful kind) good.ordered w.long w.taken)))
        (λ k e. no RootTaken))
        (λ high. no RootRange))
        (λ wrong. no Line)
      where
        rows_made_is : (rs : List Row) → rows_made ks kind n bytes ≡ Some rs → (ks.has kind ≡ true) × (n ≤ 1024) × (parsed_rows (ks.kind kind) n bytes ≡ Some rs)
        rows_made_is rs e = by (in_range ks kind n) refl e
          where
            by : (b : Bool) → in_range ks kind n ≡ b → (elim b as (λ v. Option (List Row)) [ true ↦ parsed_rows (ks.kind kind) n bytes | false ↦ None ]) ≡ Some rs → (ks.has kind ≡ true) × (n ≤ 1024) × (parsed_rows (ks.kind kind) n bytes ≡ Some rs)
            by true is e = let p = and_parts (ks.has kind) (leb n 1024) is in (p.0, leb-true n 1024 p.1, e)
            by false is e = let z : ◌≡◌ {A = ℕ} 0 1 = cc in absurd (omega arith)

  -- ---- sharing
  module _ (to from : ℕ) where
    share_done : (k : ℕ) → to < 32 → from < 32 → root_at s from ≡ Some k → root_at s to ≡ None → Step ks es s (share to from) done (with_root s (sharing.retained m k) to (Some k))
    share_done k low low' source empty =
        let q : Memory = sharing.retained m k in
        let held : Held m.nodes hs k = root_held ks es s good from k source in
        let change = retained_change m k hs good.ordered (held_used m.nodes hs k good.ordered.counts held) in
        let whole : AllWhole ks es q k = below_whole ks es s good q change.keeps k (names_at k s.roots from source) in
        let r = rooted ks es s good to k q low empty change whole in
        record {
          good = r.good;
          effect = (low, low', (k, r.there, source));
          makes = tt;
          shares =
              r.rows
              ∙ rows_kept ks es m q k (held_kept m q hs change.keeps k held)
              ∙ sym (rows_held ks es s from k source);
          reads = tt;
          unchanged = tt;
          others = r.others;
        }

    pub share_step : Step ks es s (share to from) (shared s to from).0 (shared s to from).1
    share_step =
        let Does : Said × State → Type 0 = λ p. Step ks es s (share to from) p.0 p.1 in
        let no : (e : Refusal) → Does (refused e, s) = refused_step ks es s good (share to from) in
        let work : ℕ → Said × State = λ k. (done, with_root s (sharing.retained m k) to (Some k)) in
        let taken : ℕ → Option ℕ → Said × State = λ k o. elim o [ None ↦ work k | Some j ↦ (refused RootTaken, s) ] in
        let empty : Option ℕ → Said × State = λ o. elim o [ None ↦ (refused RootEmpty, s) | Some k ↦ taken k (root_at s to) ] in
        bool_both (ltb to 32 && ltb from 32) (empty (root_at s from)) (refused RootRange, s) Does
        (λ low. option_both (root_at s from) (refused RootEmpty, s) (λ k. taken k (root_at s to)) Does
        (λ e. no RootEmpty)
        (λ k source. option_both (root_at s to) (work k) (λ j. (refused RootTaken, s)) Does
        (λ free. let p = and_parts (ltb to 32) (ltb from 32) low in share_done k (ltb-true to 32 p.0) (ltb-true from 32 p.1) source free)
        (λ j e. no RootTaken)))
        (λ high. no RootRange)

  -- ---- release
  module _ (root : ℕ) where
    release_done : (k : ℕ) → root < 32 → root_at s root ≡ Some k → Step ks es s (release root) done (with_root s (sharing.release m k) root None)
    release_done k low held =
        let q : Memory = sharing.release m k in
        let inside : root < length s.roots = omega (arith, good.roots_long) in
        let rest : List ℕ = names (set s.roots root None) in
        let before : Ordered m (k ∷ rest) = ordered_like m hs (k ∷ rest) (λ x. names_emptied x k s.roots root inside held) good.ordered in
        let change = release_change m k rest before in
        let keeps : Keeps m q rest = change.keeps in
        let order : Ordered q rest = change.ordered in
        let exact = counts_exact q.nodes rest order.counts (heights_falling q.nodes rest order.counts order.heights) in
        let more : (a : ℕ) → 0 < times a rest → 0 < times a hs = λ a h. omega (arith, names_emptied a k s.roots root inside held) in
        let old : (j : ℕ) → Held m.nodes rest j → WholeAt ks es m j = λ j h. held_whole ks es s good j (h.0, more h.0 h.1, h.2) in
        record {
          good = record {
            roots_long = length-set s.roots root None ∙ good.roots_long;
            ordered = order;
            whole = λ j u. kept_whole m q rest keeps ks es old j ((exact j).0 u);
          };
          effect = (low, get_or-set_same s.roots root None None inside);
          makes = tt;
          shares = tt;
          reads = tt;
          unchanged = tt;
          others = λ r ne. spared s q root r None rest keeps (λ j e. names_at j (set s.roots root None) r (get_or-set_other s.roots root r None None ne ∙ e)) ne;
        }

    pub release_step : Step ks es s (release root) (emptied s root).0 (emptied s root).1
    release_step =
        let Does : Said × State → Type 0 = λ p. Step ks es s (release root) p.0 p.1 in
        let no : (e : Refusal) → Does (refused e, s) = refused_step ks es s good (release root) in
        let work : ℕ → Said × State = λ k. (done, with_root s (sharing.release m k) root None) in
        let empty : Option ℕ → Said × State = λ o. elim o [ None ↦ (refused RootEmpty, s) | Some k ↦ work k ] in
        bool_both (ltb root 32) (empty (root_at s root)) (refused RootRange, s) Does
        (λ low. option_both (root_at s root) (refused RootEmpty, s) work Does
        (λ e. no RootEmpty)
        (λ k e. release_done k (ltb-true root 32 low) e))
        (λ high. no RootRange)

  -- ---- reading
  module _ (root : ℕ) where
    read_done : (k : ℕ) → root_at s root ≡ Some k → (node_at m k).encoding ≡ 1 → Step ks es s (read root) (rows (node_at m k).kind (node_at m k).len (start_at m.nodes k) (run_of m k)) s
    read_done k held is_flat =
        let used : 0 < count_at m.nodes k = held_used m.nodes hs k good.ordered.counts (root_held ks es s good root k held) in
        let w = good.whole k used in
        let nd : Node = node_at m k in
        let ranged = and_parts (ks.has nd.kind) (leb nd.len 1024 && leb nd.arity 8) (means.lawful.ranged (fields_of nd) w.known w.fields_fit) in
        let few : nd.len ≤ 1024 = leb-true nd.len 1024 (and_parts (leb nd.len 1024) (leb nd.arity 8) ranged.1).0 in
        let long : length (run_of m k) ≡ run_at m.nodes k
        = omega (arith, length-take (run_at m.nodes k) (drop (start_at m.nodes k) m.words), length-drop (start_at m.nodes k) m.words, good.ordered.within k) in
        record {
          good = good;
          effect = refl;
          makes = tt;
          shares = tt;
          reads = record {
            array = k;
            under = held;
            kind_is = refl;
            len_is = refl;
            place_is = refl;
            words_are = refl;
            few = few;
            words_long = long ∙ w.flat_run is_flat;
            rows_are = rows_held ks es s root k held ∙ flat_rows_of ks es m k is_flat;
            tidy = w.flat_tidy is_flat;
          };
          unchanged = refl;
          others = λ r h. same_spares s r;
        }

    pub read_step : Step ks es s (read root) (read_out s root) s
    read_step =
        let Does : Said → Type 0 = λ a. Step ks es s (read root) a s in
        let no : (e : Refusal) → Does (refused e) = refused_step ks es s good (read root) in
        let empty : Option ℕ → Said = λ o. elim o [ None ↦ refused RootEmpty | Some k ↦ handed m k ] in
        bool_both (ltb root 32) (empty (root_at s root)) (refused RootRange) Does
        (λ low. option_both (root_at s root) (refused RootEmpty) (λ k. handed m k) Does
        (λ e. no RootEmpty)
        (λ k e. bool_both (eqb (node_at m k).encoding 1) (rows (node_at m k).kind (node_at m k).len (start_at m.nodes k) (run_of m k)) (refused NotFlat) Does
        (λ flat. read_done k e (eqb-true (node_at m k).encoding 1 flat))
        (λ other. no NotFlat)))
        (λ high. no RootRange)

  -- every call
  pub call_step : (c : Told) → Step ks es s c (called ks es s c).0 (called ks es s c).1
  call_step (make root kind n bytes) = make_step root kind n bytes
  call_step (assemble root f rs) = assemble_step ks es means.lawful s good root f rs
  call_step (share to from) = share_step to from
  call_step (release root) = release_step root
  call_step (read root) = read_step root
