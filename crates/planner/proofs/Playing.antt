-- The history of a list of calls.
use Rattle.std.proofs.Common.{◌≡◌, ℕ, ◌+◌, ◌<◌, List, [], ◌∷◌, ◌++◌, map, length, get_or, take, sym, refl, ap, ◌∙◌, append_assoc}
use Rattle.std.proofs.lemmas.List.{map_more}
use Rattle.rows.specs.Kind.{Kinds}
use Rattle.encodings.specs.Meaning.{Encodings}
use Rattle.planner.specs.declared.call.Call.{Call}
use Rattle.planner.specs.Calls.{Told, told, Said}
use Rattle.planner.specs.Called.{State, called}
use Rattle.planner.specs.Contract.{played, answers}
use Rattle.planner.specs.Law.{Moment, History, state_after, Answered}

abbrev pub moment : Kinds → Encodings → History → Told → Moment
moment ks es h c = record { call = c; answer = (called ks es (state_after h) c).0; after = (called ks es (state_after h) c).1 }

pub played_push : (ks : Kinds) (es : Encodings) (h : History) (cs : List Told) (c : Told) → played ks es h (cs ++ c ∷ []) ≡ moment ks es (played ks es h cs) c ∷ played ks es h cs
played_push ks es h [] c = refl
played_push ks es h (x ∷ cs) c = played_push ks es (moment ks es h x ∷ h) cs c

pub played_answered : (ks : Kinds) (es : Encodings) (h : History) (cs : List Told) → Answered ks es h → Answered ks es (played ks es h cs)
played_answered ks es h [] a = a
played_answered ks es h (c ∷ cs) a = played_answered ks es (moment ks es h c ∷ h) cs (refl, a)

-- one call more
pub played_more : (ks : Kinds) (es : Encodings) (cs : List Call) (i : ℕ) (d : Call) → i < length cs → played ks es [] (map told (take (i + 1) cs)) ≡ moment ks es (played ks es [] (map told (take i cs))) (told (get_or cs i d)) ∷ played ks es [] (map told (take i cs))
played_more ks es cs i d h = ap (λ (l : List Told). played ks es [] l) (map_more told cs i d h) ∙ played_push ks es [] (map told (take i cs)) (told (get_or cs i d))

-- what is heard and what is left after one call more, which is answered by x
pub play_more : (ks : Kinds) (es : Encodings) (cs : List Call) (i : ℕ) (d : Call) → i < length cs → (s : State) → s ≡ state_after (played ks es [] (map told (take i cs))) → (x : Said × State) → x ≡ called ks es s (told (get_or cs i d))
    → ((before : List Said) → (before ++ answers (played ks es [] (map told (take i cs)))) ++ x.0 ∷ [] ≡ before ++ answers (played ks es [] (map told (take (i + 1) cs))))
    × (x.1 ≡ state_after (played ks es [] (map told (take (i + 1) cs))))
play_more ks es cs i d lt s b x is =
    let h : History = played ks es [] (map told (take i cs)) in
    let c : Told = told (get_or cs i d) in
    let p = played_more ks es cs i d lt in
    let said : x ≡ called ks es (state_after h) c = is ∙ ap (λ (y : State). called ks es y c) b in (
      (λ before.
          ap (λ (y : Said × State). (before ++ answers h) ++ y.0 ∷ []) said
          ∙ append_assoc before (answers h) ((called ks es (state_after h) c).0 ∷ [])
          ∙ sym (ap (λ (y : History). before ++ answers y) p)),
      ap (λ (y : Said × State). y.1) said ∙ sym (ap (λ (y : History). state_after y) p),
    )
