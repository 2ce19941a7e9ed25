-- How much of a pool is in use, said by the list functions that the chains of the code mirror.
use Rattle.std.proofs.Common.{◌≡◌, ◌+◌, true, false, not, cond, eqb, List, sum_by, count_by, refl}
use Rattle.std.proofs.lemmas.List.Recursion.{is_sum_by, is_count_by}
use Rattle.pool.specs.declared.node.Node.{Node}
use Rattle.pool.specs.Seen.{nodes_used, words_used}

pub nodes_counted : (ns : List Node) → nodes_used ns ≡ count_by (λ nd. not (eqb nd.count 0)) ns
nodes_counted ns =
    is_count_by nodes_used (λ nd. not (eqb nd.count 0)) refl
    (λ nd rest. elim (eqb nd.count 0) as (λ b. elim b [ true ↦ nodes_used rest | false ↦ 1 + nodes_used rest ] ≡ cond (not b) (1 + nodes_used rest) (nodes_used rest)) [ true ↦ refl | false ↦ refl ])
    ns

pub words_summed : (ns : List Node) → words_used ns ≡ sum_by (λ nd. nd.run) ns
words_summed ns = is_sum_by words_used (λ nd. nd.run) refl (λ _ _. refl) ns
