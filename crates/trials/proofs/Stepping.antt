-- What a step of the array under a root leaves in order.
use Rattle.std.proofs.Common.{◌≡◌, ℕ, ◌<◌, ◌≤◌, List, ◌∷◌, length, get_or, set, Some, None, Ok, Err, Option, Result, sym, refl, ◌∙◌, subst, ⊎_elim, arith}
use Rattle.std.proofs.lemmas.List.{get_or-set_same, get_or_past, length-set}
use Rattle.std.proofs.lemmas.Bool.{cases_lt}
use Rattle.rows.specs.Kind.{Kinds}
use Rattle.rows.specs.Ours.{LawfulKinds}
use Rattle.pool.specs.Memory.{Memory}
use Rattle.pool.specs.Counts.{names, here}
use Rattle.pool.specs.Order.{Ordered}
use Rattle.pool.proofs.Naming.{names_long}
use Rattle.encodings.specs.declared.step.ExecutionStep.{ExecutionStep}
use Rattle.encodings.specs.declared.step.ExecutionStep.TheVariants.{ExecuteSlot, AppendChild, Done}
use Rattle.encodings.specs.declared.step.StepFault.{StepFault}
use Rattle.encodings.specs.Meaning.{Encodings, LawfulSet, Within}
use Rattle.encodings.specs.Rows.{AllWhole, StandsAt}
use Rattle.encodings.specs.Step.{Steps, LawfulSteps, Need, StepAnswer, Steppable}
use Rattle.encodings.proofs.Wholes.{whole_stands, whole_children}
use Rattle.planner.specs.declared.planner.Planner.{Planner}
use Rattle.planner.specs.declared.session.Session.{Session}
use Rattle.planner.specs.Calls.{Told, Said}
use Rattle.planner.specs.Called.{State, root_at}
use Rattle.planner.specs.Law.{History, Reached}
use Rattle.planner.specs.Seen.{state_of, means_in, Answers}
use Rattle.planner.proofs.Good.{Good, held_whole}
use Rattle.encodings.proofs.Answering.{ordered_like}
use Rattle.planner.proofs.Holders.{names_at, names_filled}
use Rattle.planner.proofs.Invariant.{Ghosts, ghosts_of}
use Rattle.planner.proofs.Histories.{history_law}
use Rattle.planner.proofs.Rooted.{held_apart}
use Rattle.trials.specs.Steps.{Led, held_after}

within_self : (es : Encodings) → Within es es
within_self es =
    record {
      has = λ id h. h;
      fields_fit = λ f h. refl;
      count_fits = λ f h. refl;
      kinds_fit = λ f h ss. refl;
      lengths_fit = λ f h ss. refl;
      rows = λ f h ne cs. refl;
      rest = λ f h ne os. refl;
      rest_length = λ f h ne os. refl;
    }

-- a root that holds an array exists
exists : (rs : List (Option ℕ)) (root k : ℕ) → get_or rs root None ≡ Some k → root < length rs
exists rs root k e = ⊎_elim (λ low. low) (λ high. absurd (none_some k (sym (get_or_past rs root None high) ∙ e))) (cases_lt root (length rs))
  where
    none_some : (k : ℕ) → ◌≡◌ {A = Option ℕ} None (Some k) → ⊥
    none_some k e = let z : ◌≡◌ {A = ℕ} 0 1 = cc in omega arith

module _ (ks : Kinds) (es : Encodings) (lawful : LawfulKinds ks) (means : LawfulSet ks es) (s : State) (led : (h : History) × Reached ks es h s) (root k : ℕ) (held : root_at s root ≡ Some k) where
  good : Good ks es s
  good = subst (λ (x : State). Good ks es x) led.1.here (history_law ks lawful es means led.0 led.1.answered).0

  inside : root < length s.roots
  inside = exists s.roots root k held

  -- what the other roots hold
  abbrev others : List ℕ
  others = names (set s.roots root None)

  ordered : Ordered s.memory (k ∷ others)
  ordered = held_apart s.memory s.roots good.ordered root k inside held

  pub taken : (hs : List ℕ) × (length hs ≤ 4096) × Ordered s.memory (k ∷ hs)
  taken = (others, omega (arith, names_long (set s.roots root None), length-set s.roots root None, good.roots_long), ordered)

  all : AllWhole ks es s.memory k
  all j r = held_whole ks es s good j (k, names_at k s.roots root held, r)

  pub stands : StandsAt es s.memory k
  stands = whole_stands ks es s.memory (names s.roots) good.ordered k (all k here)

  steppable : Steppable ks es es s.memory others k
  steppable =
      record {
        ordered = ordered;
        mine = (all k here).known;
        stands = stands;
        children = whole_children ks es s.memory (names s.roots) good.ordered k all;
        flat = λ e. all k here;
      }

  answered : (n : Need) (a : Result ExecutionStep StepFault) (q : Memory) → StepAnswer ks es n s.memory others k a q → Ordered q (held_after k a ∷ others)
  answered n (Err e) q w = subst (λ (m : Memory). Ordered m (k ∷ others)) (sym w) ordered
  answered n (Ok (ExecuteSlot x t)) q w = subst (λ (m : Memory). Ordered m (k ∷ others)) (sym w.same) ordered
  answered n (Ok (AppendChild x)) q w = subst (λ (m : Memory). Ordered m (k ∷ others)) (sym w.same) ordered
  answered n (Ok (Done j)) q w = w.change.ordered

  -- the planner is in order with what the step has left under the root
  pub stepped_ghosts : (st : Steps) → LawfulSteps ks es st → (a : Result ExecutionStep StepFault) (q : Memory) → (a, q) ≡ st.stepped s.memory k → Ghosts q (set (set s.roots root None) root (Some (held_after k a)))
  stepped_ghosts st keeps a q is =
      let kept = keeps es means (within_self es) s.memory others k steppable in
      let p : StepAnswer ks es (st.need s.memory k) s.memory others k a q
      = subst (λ (x : Result ExecutionStep StepFault × Memory). StepAnswer ks es (st.need s.memory k) s.memory others k x.0 x.1) (sym is) kept.answer in
      let rest : List (Option ℕ) = set s.roots root None in
      let long : length rest ≡ length s.roots = length-set s.roots root None in
      let j : ℕ = held_after k a in
      ghosts_of q (set rest root (Some j)) (length-set rest root (Some j) ∙ long ∙ good.roots_long)
      (ordered_like q (j ∷ names rest) (names (set rest root (Some j)))
      (λ x. names_filled x j rest root (omega (arith, long, inside)) (get_or-set_same s.roots root None None inside))
      (answered (st.need s.memory k) a q p))

-- a call that was answered leads on
pub led_on : {K E B M : Type 0} {kinds_of : K → Kinds} {means_of : E → Kinds → Encodings} {p q : Planner K E B M} {c : Told} {a : Said} → Led kinds_of means_of p → Answers kinds_of means_of p q c a → Led kinds_of means_of q
led_on {K} {E} {B} {M} {kinds_of} {means_of} {p} {q} led done =
    subst (λ (x : Session K E B M). (h : History) × Reached (kinds_of x.kinds) (means_in kinds_of means_of x) h (state_of q)) (sym done.session)
    (_, (done.does.law led.0 led.1).reached)
