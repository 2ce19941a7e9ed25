use Rattle.std.proofs.Common.{◌≡◌, ℕ, ◌+◌, ◌-◌, List, length, take, drop, replicate, sym, ap, ◌∙◌, subst, ap₂, arith, rules}
use Rattle.std.proofs.lemmas.List.{length-take, length-drop}
use Rattle.pool.specs.Memory.{Memory, slots_at, start_at, run_at, overwritten, with_words}
use Rattle.pool.specs.Order.{Within}
use Rattle.pool.specs.Sharing.{vacated, each_slot, released}
use Rattle.pool.specs.Seen.{memory_of}
use Rattle.pool.proofs.Naming.{names_given, turn_splits, end_gives}
use Rattle.pool.proofs.Releasing.{code_sound, code_last, code_less, last_good, last_low, next_good, next_low, next_gives}
use Rattle.pool.proofs.pool.Pool.+release_release_slots.Goals as goal

pub release-returns-then-node-ne1 : goal.release-returns-then-node-ne1
release-returns-then-node-ne1 t c = code_less (memory_of c.args.self.now) c.args.n c.requires.owed c.requires.falling c.requires.within c.if-node-ne1.true

-- the words after the fill of those from a to b
filled : (m : Memory) (n : ℕ) (xs : List ℕ) (a b : ℕ) → a ≡ start_at m.nodes n → b ≡ start_at m.nodes n + run_at m.nodes n → Within m.nodes m.words → xs ≡ replicate (length (take (b - a) (drop a m.words))) 0
    → overwritten m.words a (b - a) xs ≡ (vacated m n).words
filled m n xs a b p q within e =
    let r : ℕ = run_at m.nodes n in
    let zeros : xs ≡ replicate r 0 = e ∙ ap (λ (k : ℕ). replicate k 0) (omega (arith, within n, length-take (b - a) (drop a m.words), length-drop a m.words)) in
    ap (λ (ys : List ℕ). overwritten m.words a (b - a) ys) zeros ∙ ap₂ (λ (i k : ℕ). overwritten m.words i k (replicate r 0)) p (omega arith)

pub release-release_slots-requires : goal.release-release_slots-requires
release-release_slots-requires t c =
    let m : Memory = memory_of c.args.self.now in
    let n : ℕ = c.args.n in
    let s = code_sound m n c.requires.owed c.requires.falling c.requires.within in
    let g = last_good m n c.requires.owed.0 s c.if-node-ne1.false in
    let e = filled m n c.fill.new.self _ _ c.words.ensures.start c.words.ensures.end c.requires.within (c.fill.ensures.after (λ y q. q)) in (
      omega (arith, last_low m n c.requires.owed.0 s c.if-node-ne1.false, c.decreases),
      (
        (c.requires.owed.0, g.sound.counts),
        (
          g.sound.falling,
          subst (λ (ws : List ℕ). Within (vacated m n).nodes ws) (sym e) g.sound.within,
        ),
      ),
    )

pub release-returns : goal.release-returns
release-returns t c =
    let m : Memory = memory_of c.args.self.now in
    let n : ℕ = c.args.n in
    let e = filled m n c.fill.new.self _ _ c.words.ensures.start c.words.ensures.end c.requires.within (c.fill.ensures.after (λ y q. q)) in
    code_last m n c.requires.owed c.requires.falling c.requires.within (memory_of c.release_slots.new.self) c.if-node-ne1.false
    (λ f h. c.release_slots.ensures f h ∙ ap (λ (ws : List ℕ). each_slot (released f) (with_words (vacated m n) ws) (slots_at m.nodes n)) e)

pub release_slots-release-requires : goal.release_slots-release-requires
release_slots-release-requires t c =
    let m : Memory = memory_of c.args.self.now in
    let q = c.requires in
    let xs : List ℕ = c.loop-child.yielded in
    let s = turn_splits c.args.slots (names_given c.args.slots (search rules) (search rules) (λ x r q k. search rules)) xs _ c.loop-child.yielded_by _ c.next.ensures.steps c.in-Some.child c.in-Some.is in
    let g = next_good m c.args.slots q.owed q.falling q.within xs s.0 c.in-Some.child s.1 (memory_of c.loop-child.self) c.loop-child.invariant in
    let l = next_low m c.args.slots q.owed q.falling q.within xs s.0 c.in-Some.child s.1 (memory_of c.loop-child.self) c.loop-child.invariant in
    (omega (arith, l, c.decreases), ((_, g.sound.counts), (g.sound.falling, g.sound.within)))

pub release_slots-loop-child-preserved : goal.release_slots-loop-child-preserved
release_slots-loop-child-preserved t c =
    let q = c.requires in
    let xs : List ℕ = c.loop-child.yielded in
    let s = turn_splits c.args.slots (names_given c.args.slots (search rules) (search rules) (λ x r q k. search rules)) xs _ c.loop-child.yielded_by _ c.next.ensures.steps c.in-Some.child c.in-Some.is in
    next_gives (memory_of c.args.self.now) c.args.slots q.owed q.falling q.within xs s.0 c.in-Some.child s.1 (memory_of c.loop-child.self) c.loop-child.invariant (memory_of c.release.new.self) c.release.ensures

pub release_slots-returns : goal.release_slots-returns
release_slots-returns t c f h =
    c.loop-child.invariant f h
    ∙ end_gives c.args.slots (names_given c.args.slots (search rules) (search rules) (λ x r q k. search rules)) c.loop-child.yielded _ c.loop-child.yielded_by _ c.next.ensures.steps (released f) (memory_of c.args.self.now) c.in-None.is
