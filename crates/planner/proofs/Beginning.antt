-- A new planner is in order.
use Rattle.std.proofs.Common.{◌≡◌, ℕ, zero, suc, ◌⊎◌, length, get_or, replicate, None, Option, sym, refl, ap, ◌∙◌, inl, inr, ⊎_elim, arith}
use Rattle.std.proofs.lemmas.List.{get_or-replicate, get_or_past, length-replicate}
use Rattle.std.proofs.lemmas.Bool.{cases_lt}
use Rattle.rows.specs.Kind.{Kinds}
use Rattle.pool.specs.declared.node.Node.{Node}
use Rattle.pool.specs.Memory.{blank, free_node, empty_memory, count_at, start_at, run_at}
use Rattle.pool.specs.Counts.{names, named}
use Rattle.pool.specs.Order.{Ordered}
use Rattle.encodings.specs.Meaning.{Encodings}
use Rattle.planner.specs.Called.{new_state}
use Rattle.planner.proofs.Good.{Good}

-- an empty root wherever one looks
pub none_at : {X : Type 0} (n r : ℕ) → get_or {A = Option X} (replicate n None) r None ≡ None
none_at zero r = refl
none_at (suc n) zero = refl
none_at (suc n) (suc r) = none_at n r

named_none : (k n : ℕ) → named k (replicate n free_node) ≡ 0
named_none k zero = refl
named_none k (suc n) = omega (arith, named_none k n)

-- no node is in use
free_at : (n k : ℕ) → (get_or (replicate n free_node) k blank ≡ free_node) ⊎ (get_or (replicate n free_node) k blank ≡ blank)
free_at n k =
    ⊎_elim
    (λ h. inl (get_or-replicate n k free_node blank h))
    (λ h. inr (get_or_past (replicate n free_node) k blank (omega (arith, length-replicate n free_node))))
    (cases_lt k n)

-- a field that is 0 in the free node and past the nodes
zero_at : (f : Node → ℕ) → f free_node ≡ 0 → f blank ≡ 0 → (k : ℕ) → f (get_or empty_memory.nodes k blank) ≡ 0
zero_at f a b k = ⊎_elim (λ e. ap f e ∙ a) (λ e. ap f e ∙ b) (free_at 256 k)

no_count : (k : ℕ) → count_at empty_memory.nodes k ≡ 0
no_count k = zero_at (λ nd. nd.count) refl refl k

no_run : (k : ℕ) → run_at empty_memory.nodes k ≡ 0
no_run k = zero_at (λ nd. nd.run) refl refl k

no_start : (k : ℕ) → start_at empty_memory.nodes k ≡ 0
no_start k = zero_at (λ nd. nd.start) refl refl k

pub new_ordered : Ordered new_state.memory (names new_state.roots)
new_ordered =
    record {
      nodes_long = length-replicate 256 free_node;
      words_long = length-replicate {A = ℕ} 8192 0;
      counts = λ k. no_count k ∙ sym (named_none k 256);
      heights = λ k h. absurd (omega (arith, no_count k));
      low = λ k. omega (arith, zero_at (λ nd. nd.height) refl refl k);
      eight = λ k h. ap (λ (nd : Node). length nd.slots) (get_or-replicate 256 k free_node blank (omega (arith, length-replicate 256 free_node)));
      within = λ k. omega (arith, no_start k, no_run k);
      apart = λ j k ne a b l. absurd (omega (arith, no_run j));
      slotless = λ k c h. absurd (omega (arith, no_run k));
      freed = λ k h e. get_or-replicate 256 k free_node blank (omega (arith, length-replicate 256 free_node));
      cleared = λ i h. ⊎_elim (λ l. get_or-replicate 8192 i 0 0 l) (λ l. get_or_past (replicate 8192 0) i 0 (omega (arith, length-replicate {A = ℕ} 8192 0))) (cases_lt i 8192);
    }

pub new_good : (ks : Kinds) (es : Encodings) → Good ks es new_state
new_good ks es =
    record {
      roots_long = refl;
      ordered = new_ordered;
      whole = λ k h. absurd (omega (arith, no_count k));
    }
