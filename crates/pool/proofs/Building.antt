-- A Flat array that is built: opened, appended to, and finished.
use Rattle.std.proofs.Common.{◌≡◌, ℕ, suc, ◌+◌, ◌<◌, ◌≤◌, true, List, [], ◌∷◌, length, get_or, drop, set, replicate, ◌≢◌, Some, None, Ok, Err, Option, Result, sym, refl, ap, ◌∙◌, subst, arith}
use Rattle.std.proofs.lemmas.List.{length-set, length-take-le, length-drop, length-replicate, get_or-set_same, get_or-set_other, get_or-take, get_or-drop, get_or-replicate, set-set, ext_get_or}
use Rattle.rows.specs.declared.row.Row.{Row}
use Rattle.rows.specs.Kind.{Kind, Kinds, LawfulKind, Taken, rows, appended}
use Rattle.rows.proofs.Appending.{appended_long, appended_tidy, appended_whole}
use Rattle.pool.specs.declared.node.Node.{Node}
use Rattle.pool.specs.declared.node.PoolFault.{PoolFault}
use Rattle.pool.specs.declared.node.PoolFault.TheVariants.{Height, Nodes, Words}
use Rattle.pool.specs.Memory.{Memory, blank, no_slots, node_at, count_at, start_at, run_at, with_encoding, put_node, with_words, part, overwritten, run_of, with_run}
use Rattle.pool.specs.Order.{Ordered, Change}
use Rattle.pool.specs.Finding.{lowest_free, find_run, Room, Lowest, LowestNode}
use Rattle.pool.specs.Building.{open_node, append_rows, finished, built}
use Rattle.pool.proofs.Found.{lowest_free_is, find_run_is, found_room}
use Rattle.pool.proofs.Placing.{placed, placed_change, over_long, over_part, over_over, over_same}

-- appending row by row writes the run that all the rows come to
pub append_rows_is : (ks : Kinds) (m : Memory) (i k : ℕ) (rs : List Row) → i < length m.nodes → start_at m.nodes i + run_at m.nodes i ≤ length m.words → LawfulKind (ks.kind (node_at m i).kind)
    → append_rows ks m i k rs ≡ with_run m i (appended (ks.kind (node_at m i).kind) (node_at m i).len (run_of m i) k rs)
append_rows_is ks m i k [] h f law = sym (ap (λ (ws : List ℕ). with_words m ws) (over_same m.words (start_at m.nodes i) (run_at m.nodes i)))
append_rows_is ks m i k (r ∷ rs) h f law =
    let kd : Kind = ks.kind (node_at m i).kind in
    let n : ℕ = (node_at m i).len in
    let s : ℕ = start_at m.nodes i in
    let w : ℕ = run_at m.nodes i in
    let xs : List ℕ = kd.put n (run_of m i) k r in
    let long : length xs ≡ w = law.put_long n (run_of m i) k r ∙ length-take-le w (drop s m.words) (omega (arith, length-drop s m.words)) in
    append_rows_is ks (with_run m i xs) i (suc k) rs h (omega (arith, over_long m.words s w xs f long)) law
    ∙ ap (λ (run : List ℕ). with_run (with_run m i xs) i (appended kd n run (suc k) rs)) (over_part m.words s w xs f long)
    ∙ ap (λ (ws : List ℕ). with_words m ws) (over_over m.words s w xs f long (appended kd n xs (suc k) rs))

-- words that no run has are all 0
pub room_clear : (m : Memory) (hs : List ℕ) (w s : ℕ) → Ordered m hs → Room m w s → part m.words s w ≡ replicate w 0
room_clear m hs w s o room =
    let fits = room.inside in
    let long : length (part m.words s w) ≡ w = length-take-le w (drop s m.words) (omega (arith, length-drop s m.words)) in
    ext_get_or 0 (part m.words s w) (replicate w 0) (long ∙ sym (length-replicate w 0))
    (λ k l.
    let b : k < w = omega arith in
    get_or-take w (drop s m.words) k 0 b
    ∙ get_or-drop s m.words k 0
    ∙ o.cleared (s + k) (λ j p q. room.clear j (s + k) (omega arith) (omega arith) p q)
    ∙ sym (get_or-replicate w k 0 0 b))

-- what a build gives: a node that was free is a Flat array of these rows, and what others hold is as it was
pub record Built (ks : Kinds) (m q : Memory) (hs : List ℕ) (kind n : ℕ) (rs : List Row) (i : ℕ) : Type 0 where
  pub fresh : count_at m.nodes i ≡ 0
  pub change : Change m q (i ∷ hs) hs
  -- every other node is as it was
  pub others : (k : ℕ) → (k ≢ i) → node_at q k ≡ node_at m k
  pub encoding_is : (node_at q i).encoding ≡ 1
  pub kind_is : (node_at q i).kind ≡ kind
  pub len_is : (node_at q i).len ≡ n
  pub parameter_is : (node_at q i).parameter ≡ 0
  pub arity_is : (node_at q i).arity ≡ 0
  pub slots_is : (node_at q i).slots ≡ no_slots
  pub height_is : (node_at q i).height ≡ 1
  pub count_is : (node_at q i).count ≡ 1
  pub start_is : find_run m ((ks.kind kind).words n) ≡ Some (start_at q.nodes i)
  pub run_is : (node_at q i).run ≡ (ks.kind kind).words n
  pub rows_is : rows (ks.kind kind) n (run_of q i) ≡ rs
  pub tidy_is : (ks.kind kind).tidy n (run_of q i) ≡ true

-- a Flat node of n rows
flat_node : ℕ → ℕ → ℕ → ℕ → Node
flat_node kind n s w = with_encoding (open_node kind n s w) 1

module _ (ks : Kinds) (m : Memory) (hs : List ℕ) (kind n : ℕ) (rs : List Row) (law : LawfulKind (ks.kind kind)) (o : Ordered m hs) where
  pub run_built : List ℕ
  run_built = appended (ks.kind kind) n (replicate ((ks.kind kind).words n) 0) 0 rs

  module _ (i s : ℕ) (inside : i < length m.nodes) (free : count_at m.nodes i ≡ 0) (sought : find_run m ((ks.kind kind).words n) ≡ Some s) where
    room : Room m ((ks.kind kind).words n) s
    room = found_room m ((ks.kind kind).words n) s sought

    opened_at : Memory
    opened_at = put_node m i (open_node kind n s ((ks.kind kind).words n))

    opened_node : node_at opened_at i ≡ open_node kind n s ((ks.kind kind).words n)
    unfolding opened_at
    opened_node = get_or-set_same m.nodes i (open_node kind n s ((ks.kind kind).words n)) blank inside

    pub built_long : length run_built ≡ (ks.kind kind).words n
    unfolding run_built
    built_long = appended_long law n (replicate ((ks.kind kind).words n) 0) 0 rs ∙ length-replicate ((ks.kind kind).words n) 0

    -- the memory once all the rows are appended, and then once it is finished
    pub appended_is : append_rows ks (put_node m i (open_node kind n s ((ks.kind kind).words n))) i 0 rs ≡ placed m i s ((ks.kind kind).words n) (open_node kind n s ((ks.kind kind).words n)) run_built
    unfolding opened_at run_built
    appended_is =
        let w : ℕ = (ks.kind kind).words n in
        let e = opened_node in
        let fits : start_at opened_at.nodes i + run_at opened_at.nodes i ≤ length m.words = omega (arith, room.inside, ap (λ (x : Node). x.start) e, ap (λ (x : Node). x.run) e) in
        append_rows_is ks opened_at i 0 rs (omega (arith, length-set m.nodes i (open_node kind n s w))) fits (subst (λ (x : Node). LawfulKind (ks.kind x.kind)) (sym e) law)
        ∙ ap (λ (x : Node). with_words opened_at (overwritten m.words x.start x.run (appended (ks.kind x.kind) x.len (part m.words x.start x.run) 0 rs))) e
        ∙ ap (λ (run : List ℕ). with_words opened_at (overwritten m.words s w (appended (ks.kind kind) n run 0 rs))) (room_clear m hs w s o room)

    finished_is : finished (append_rows ks opened_at i 0 rs) i ≡ placed m i s ((ks.kind kind).words n) (flat_node kind n s ((ks.kind kind).words n)) run_built
    unfolding opened_at flat_node
    finished_is =
        let w : ℕ = (ks.kind kind).words n in
        ap (λ (q : Memory). finished q i) appended_is
        ∙ ap (λ (ns : List Node). record { nodes = ns; words = overwritten m.words s w run_built })
        (ap (λ (x : Node). set (set m.nodes i (open_node kind n s w)) i (with_encoding x 1)) opened_node
        ∙ set-set m.nodes i (open_node kind n s w) (flat_node kind n s w))

    module _ (all : length rs ≡ n) (taken : Taken (ks.kind kind) rs) where
      rows_built : rows (ks.kind kind) n run_built ≡ rs
      unfolding run_built
      rows_built = appended_whole law n rs all taken

      tidy_built : (ks.kind kind).tidy n run_built ≡ true
      unfolding run_built
      tidy_built = appended_tidy law n (replicate ((ks.kind kind).words n) 0) 0 rs (length-replicate ((ks.kind kind).words n) 0) (omega arith) taken (law.clear_tidy n)

      built_placed : Built ks m (placed m i s ((ks.kind kind).words n) (flat_node kind n s ((ks.kind kind).words n)) run_built) hs kind n rs i
      unfolding flat_node
      built_placed =
          let w : ℕ = (ks.kind kind).words n in
          let nd : Node = flat_node kind n s w in
          let e : get_or (set m.nodes i nd) i blank ≡ nd = get_or-set_same m.nodes i nd blank inside in
          let run : part (overwritten m.words s w run_built) (start_at (set m.nodes i nd) i) (run_at (set m.nodes i nd) i) ≡ run_built
          = ap (λ (x : Node). part (overwritten m.words s w run_built) x.start x.run) e ∙ over_part m.words s w run_built room.inside built_long in
          record {
            fresh = free;
            change = placed_change m hs i s w nd run_built o inside free room refl refl refl refl refl built_long;
            others = λ k ne. get_or-set_other m.nodes i k nd blank ne;
            encoding_is = ap (λ (x : Node). x.encoding) e;
            kind_is = ap (λ (x : Node). x.kind) e;
            len_is = ap (λ (x : Node). x.len) e;
            parameter_is = ap (λ (x : Node). x.parameter) e;
            arity_is = ap (λ (x : Node). x.arity) e;
            slots_is = ap (λ (x : Node). x.slots) e;
            height_is = ap (λ (x : Node). x.height) e;
            count_is = ap (λ (x : Node). x.count) e;
            start_is = sought ∙ ap (λ (x : Node). Some x.start) (sym e);
            run_is = ap (λ (x : Node). x.run) e;
            rows_is = ap (λ (l : List ℕ). rows (ks.kind kind) n l) run ∙ rows_built;
            tidy_is = ap (λ (l : List ℕ). (ks.kind kind).tidy n l) run ∙ tidy_built;
          }

      built_at : Built ks m (finished (append_rows ks (put_node m i (open_node kind n s ((ks.kind kind).words n))) i 0 rs) i) hs kind n rs i
      unfolding opened_at
      built_at = subst (λ (q : Memory). Built ks m q hs kind n rs i) (sym finished_is) built_placed

-- the memory after a build: as it was where it is refused
abbrev pub Outcome : Kinds → Memory → List ℕ → ℕ → ℕ → List Row → Result ℕ PoolFault → Memory → Type 0
Outcome ks m hs kind n rs (Err e) q = q ≡ m
Outcome ks m hs kind n rs (Ok i) q = Built ks m q hs kind n rs i

-- what is opened, and what is built, where the node and the run that are found are these
abbrev pub opened_by : Memory → ℕ → ℕ → ℕ → Option ℕ → Option ℕ → Result ℕ PoolFault × Memory
opened_by m kind n w f r =
    elim f [
      | None ↦ (Err Nodes, m)
      | Some i ↦ elim r [ None ↦ (Err Words, m) | Some s ↦ (Ok i, put_node m i (open_node kind n s w)) ]
    ]

abbrev found : Kinds → Memory → ℕ → ℕ → List Row → Option ℕ → Option ℕ → Result ℕ PoolFault × Memory
found ks m kind n rs f r =
    let o = opened_by m kind n ((ks.kind kind).words n) f r in
    elim o.0 [ Err e ↦ (Err e, o.1) | Ok i ↦ (Ok i, finished (append_rows ks o.1 i 0 rs) i) ]

pub built_is : (ks : Kinds) (m : Memory) (hs : List ℕ) (kind n : ℕ) (rs : List Row) → LawfulKind (ks.kind kind) → Ordered m hs → length rs ≡ n → Taken (ks.kind kind) rs
    → Outcome ks m hs kind n rs (built ks m kind n rs).0 (built ks m kind n rs).1
built_is ks m hs kind n rs law o all taken = go (lowest_free m.nodes 0) (lowest_free_is m.nodes) (find_run m ((ks.kind kind).words n)) refl
  where
    go : (f : Option ℕ) → LowestNode m.nodes f → (r : Option ℕ) → find_run m ((ks.kind kind).words n) ≡ r
        → Outcome ks m hs kind n rs (found ks m kind n rs f r).0 (found ks m kind n rs f r).1
    go None a r b = refl
    go (Some i) a None b = refl
    go (Some i) a (Some s) b = built_at ks m hs kind n rs law o i s a.0 a.1 b all taken

-- why a build is refused
pub refused_nodes : (ks : Kinds) (m : Memory) (kind n : ℕ) (rs : List Row) → (built ks m kind n rs).0 ≡ Err Nodes → (k : ℕ) → k < length m.nodes → 0 < count_at m.nodes k
refused_nodes ks m kind n rs = go (lowest_free m.nodes 0) (lowest_free_is m.nodes) (find_run m ((ks.kind kind).words n))
  where
    go : (f : Option ℕ) → LowestNode m.nodes f → (r : Option ℕ) → (found ks m kind n rs f r).0 ≡ Err Nodes → (k : ℕ) → k < length m.nodes → 0 < count_at m.nodes k
    go None a r e = a
    go (Some i) a None e = absurd (let z : ◌≡◌ {A = ℕ} 0 1 = cc in omega arith)
    go (Some i) a (Some s) e = absurd (let z : ◌≡◌ {A = ℕ} 0 1 = cc in omega arith)

pub refused_words : (ks : Kinds) (m : Memory) (kind n : ℕ) (rs : List Row) → (built ks m kind n rs).0 ≡ Err Words
    → ((i : ℕ) × (i < length m.nodes) × (count_at m.nodes i ≡ 0)) × ((s : ℕ) → Room m ((ks.kind kind).words n) s → ⊥)
refused_words ks m kind n rs = go (lowest_free m.nodes 0) (lowest_free_is m.nodes) (find_run m ((ks.kind kind).words n)) (find_run_is m ((ks.kind kind).words n))
  where
    go : (f : Option ℕ) → LowestNode m.nodes f → (r : Option ℕ) → Lowest m ((ks.kind kind).words n) r → (found ks m kind n rs f r).0 ≡ Err Words
        → ((i : ℕ) × (i < length m.nodes) × (count_at m.nodes i ≡ 0)) × ((s : ℕ) → Room m ((ks.kind kind).words n) s → ⊥)
    go None a r b e = absurd (let z : ◌≡◌ {A = ℕ} 0 1 = cc in omega arith)
    go (Some i) a None b e = ((i, a.0, a.1), b)
    go (Some i) a (Some s) b e = absurd (let z : ◌≡◌ {A = ℕ} 0 1 = cc in omega arith)

pub refused_never : (ks : Kinds) (m : Memory) (kind n : ℕ) (rs : List Row) → (built ks m kind n rs).0 ≡ Err Height → ⊥
refused_never ks m kind n rs = go (lowest_free m.nodes 0) (find_run m ((ks.kind kind).words n))
  where
    go : (f r : Option ℕ) → (found ks m kind n rs f r).0 ≡ Err Height → ⊥
    go None r e = let z : ◌≡◌ {A = ℕ} 0 1 = cc in omega arith
    go (Some i) None e = let z : ◌≡◌ {A = ℕ} 0 1 = cc in omega arith
    go (Some i) (Some s) e = let z : ◌≡◌ {A = ℕ} 0 1 = cc in omega arith
