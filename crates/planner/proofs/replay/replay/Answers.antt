use Rattle.std.proofs.Common.{◌≡◌, ◌≤◌, List, [], ◌++◌, map, length, take, get_or, ap, ◌∙◌, subst, arith}
use Rattle.std.proofs.lemmas.List.{take_all}
use Rattle.rows.specs.Kind.{Kinds}
use Rattle.pool.specs.Seen.{nodes_used, words_used}
use Rattle.encodings.specs.Meaning.{Encodings}
use Rattle.planner.specs.declared.call.Call.{Call}
use Rattle.planner.specs.declared.session.Session.{Session}
use Rattle.planner.specs.Calls.{Told, Said, told}
use Rattle.planner.specs.Called.{State, called}
use Rattle.planner.specs.Contract.{answers, roots_used}
use Rattle.planner.specs.Law.{History, state_after}
use Rattle.planner.specs.Seen.{state_of, means_in, called_on, played_in}
use Rattle.planner.proofs.Histories.{history_law}
use Rattle.planner.proofs.Outcomes.{state_is}
use Rattle.planner.proofs.Playing.{play_more, played_answered}
use Rattle.planner.proofs.replay.replay.Goals as goal

pub loop-call-preserved : goal.loop-call-preserved
loop-call-preserved g c =
    let k = c.loop-call.invariant.2 in
    let first : Session _ _ _ _ = c.new-planner.result.session in
    let s : State = state_of c.loop-call.planner in
    let call : Told = told (get_or c.args.calls.now c.loop-call.call-index _) in
    let p = play_more (g.K.RowKinds.kinds first.kinds) (means_in g.K.RowKinds.kinds g.E.Encoding.means first) c.args.calls.now c.loop-call.call-index _ c.loop-call-test.true s c.loop-call.invariant.1
    (called_on g.K.RowKinds.kinds g.E.Encoding.means c.loop-call.planner call)
    (ap (λ (x : Session _ _ _ _). called (g.K.RowKinds.kinds x.kinds) (means_in g.K.RowKinds.kinds g.E.Encoding.means x) s call) k) in (
      (λ before h. subst (λ (l : List Said). g.L.Listener.hears c.serve.new.listener l) (p.0 before) (c.serve.ensures.heard _ (c.loop-call.invariant.0 before h))),
      state_is _ _ _ _ _ _ c.serve.ensures.answers.does ∙ p.1,
      c.serve.ensures.answers.session ∙ k,
    )

pub returns : goal.returns
returns g c =
    let ks : Kinds = g.K.RowKinds.kinds c.args.session.kinds in
    let es : Encodings = means_in g.K.RowKinds.kinds g.E.Encoding.means c.args.session in
    let played : List Call → History = λ l. played_in g.K.RowKinds.kinds g.E.Encoding.means c.args.session (map told l) in
    let past : length c.args.calls.now ≤ c.loop-call.call-index = omega arith in
    let all : take c.loop-call.call-index c.args.calls.now ≡ c.args.calls.now = take_all c.loop-call.call-index c.args.calls.now past in
    let ends : state_of c.loop-call.planner ≡ state_after (played c.args.calls.now)
    = subst (λ (l : List Call). state_of c.loop-call.planner ≡ state_after (played l)) all
    (subst (λ (x : Session _ _ _ _). state_of c.loop-call.planner ≡ state_after (played_in g.K.RowKinds.kinds g.E.Encoding.means x (map told (take c.loop-call.call-index c.args.calls.now)))) c.new-planner.ensures.session
    c.loop-call.invariant.1) in
    record {
      heard = λ before h.
          subst (λ (l : List Call). g.L.Listener.hears c.loop-call.listener (before ++ answers (played l))) all
          (subst (λ (x : Session _ _ _ _). g.L.Listener.hears c.loop-call.listener (before ++ answers (played_in g.K.RowKinds.kinds g.E.Encoding.means x (map told (take c.loop-call.call-index c.args.calls.now))))) c.new-planner.ensures.session
          (c.loop-call.invariant.0 before h));
      law = (history_law ks (g.met.K.RowKinds.lawful c.args.session.kinds) es (g.met.E.EncodingSet.complete c.args.session.encodings ks) (played c.args.calls.now) (played_answered ks es [] (map told c.args.calls.now) tt)).1;
      roots = c.inspect.ensures.roots ∙ ap (λ (s : State). roots_used s.roots) ends;
      nodes = c.inspect.ensures.nodes ∙ ap (λ (s : State). nodes_used s.memory.nodes) ends;
      words = c.inspect.ensures.words ∙ ap (λ (s : State). words_used s.memory.nodes) ends;
    }
