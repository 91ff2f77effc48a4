-- The effect of writing the chains of a leaf on their ends.
use Rattle.std.proofs.Common.{◌≡◌, ◌≢◌, ◌≤◌, ◌<◌, ℕ, ◌+◌, ◌-◌, ◌++◌, List, [], length, slice_index, slice_index_or, slice_set, sym, ap, ◌∙◌}
use Rattle.std.proofs.Common.{arith}
use Rattle.std.proofs.lemmas.List.{get_or-set_same, get_or-set_other, length-append}
use Rattle.std.specs.Int.{w16, w32, to_be_bytes}
use Rattle.lm_ots.specs.declared.leaf_chains.Chains.{Chains}
use Rattle.lm_ots.specs.Steps.{place_in, step_in, step_input, rest_of, walk}
use Rattle.lm_ots.specs.Ends.{end_of, chain_prefix, message_of}
use Rattle.lm_ots.proofs.Chains.{place-made, rest-made}

-- the chains with one of them at another value
abbrev pub put : Chains → ℕ → ℕ → ℕ → List ℕ → Chains
put c p next left value = record c { values = slice_set c.values p value; next = slice_set c.next p next; left = slice_set c.left p left }

-- where that one leads to
pub end_of-set : (c d : Chains) (p next left : ℕ) (value : List ℕ) → d ≡ put c p next left value
    → p < length c.values → p < length c.next → p < length c.left → end_of d p ≡ walk (chain_prefix c p) next left value
unfolding end_of
end_of-set c d p next left value is vs ns ls =
    ap (λ (e : Chains). walk (chain_prefix e p) (slice_index e.next p) (slice_index e.left p) (slice_index_or e.values p [])) is
    ∙ (λ i. walk (chain_prefix c p) (get_or-set_same c.next p next 0 ns i) (get_or-set_same c.left p left 0 ls i)
    (get_or-set_same c.values p value [] vs i))

-- the others lead to where they did
pub end_of-others : (c d : Chains) (p next left : ℕ) (value : List ℕ) → d ≡ put c p next left value
    → (k : ℕ) → k ≢ p → end_of d k ≡ end_of c k
unfolding end_of
end_of-others c d p next left value is k other =
    ap (λ (e : Chains). walk (chain_prefix e k) (slice_index e.next k) (slice_index e.left k) (slice_index_or e.values k [])) is
    ∙ (λ i. walk (chain_prefix c k) (get_or-set_other c.next p k next 0 other i) (get_or-set_other c.left p k left 0 other i)
    (get_or-set_other c.values p k value [] other i))

-- a chain with no steps left has ended
pub end_of-reached : (c : Chains) (p : ℕ) → slice_index c.left p ≡ 0 → slice_index_or c.values p [] ≡ end_of c p
unfolding end_of walk
end_of-reached c p none = ap (λ n. walk (chain_prefix c p) (slice_index c.next p) n (slice_index_or c.values p [])) (sym none)

length-place : (c : Chains) (p : ℕ) → length c.identifier ≡ 16 → length (chain_prefix c p) ≡ 22
length-place c p whole =
    omega (
      arith,
      length-append (c.identifier ++ to_be_bytes w32 c.leaf) (to_be_bytes w16 p),
      length-append c.identifier
          (to_be_bytes w32 c.leaf),
    )

-- the steps of the message of a chain lead to its end
pub rest-end : (c : Chains) (p n : ℕ) → length c.identifier ≡ 16 → n ≡ slice_index c.left p → rest_of (message_of c p) n ≡ end_of c p
unfolding end_of
rest-end c p n whole all =
    rest-made (chain_prefix c p) (slice_index_or c.values p []) (slice_index c.next p) n (length-place c p whole)
    ∙ ap (λ k. walk (chain_prefix c p) (slice_index c.next p) k (slice_index_or c.values p [])) all

-- one chain, whose message has taken some of the steps, is put at what they came to: it leads to where it did
pub turned : (c now d : Chains) (p count next left : ℕ) (m after value : List ℕ) → length c.identifier ≡ 16 → now.identifier ≡ c.identifier
    → now.leaf ≡ c.leaf
    → m ≡ message_of c p → place_in after ≡ place_in m → ((n : ℕ) → rest_of after n ≡ rest_of m (count + n))
    → left ≡ slice_index c.left p - count → count ≤ slice_index c.left p → next ≡ step_in after → value ≡ step_input after
    → d ≡ put now p next left value → p < length now.values → p < length now.next → p < length now.left → end_of d p ≡ end_of c p
turned c now d p count next left m after value named same leaf is place rest fewer most nexts values set vs ns ls =
    let here : chain_prefix now p ≡ chain_prefix c p = (λ i. same i ++ to_be_bytes w32 (leaf i) ++ to_be_bytes w16 p) in
    let there : chain_prefix c p ≡ place_in after =
    sym (place ∙ ap place_in is ∙ place-made (chain_prefix c p) (slice_index_or c.values p []) (slice_index c.next p)
    (length-place c p named)) in
    end_of-set now d p next left value set vs ns ls
    ∙ (λ i. walk ((here ∙ there) i) (nexts i) left (values i))
    ∙ rest left ∙ ap (λ zs. rest_of zs (count + left)) is ∙ rest-end c p (count + left) named (omega arith)
