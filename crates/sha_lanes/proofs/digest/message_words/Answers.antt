use Rattle.std.proofs.Common.{rules, ◌≡◌, ◌<◌, ◌*◌, ℕ, [], ◌∷◌, List, slice_index, slice_index_or, inl, inr, ◌∙◌, ap, arith}
use Rattle.std.proofs.lemmas.List.{get_or-set_same, get_or-set_other}
use Rattle.std.proofs.lemmas.Bool.{cases_lt}
use Rattle.sha2.specs.Sha256.{padded_message, word_at}
use Rattle.sha_lanes.proofs.LaneLemmas.{below_eight}
use Rattle.sha_lanes.proofs.digest.message_words.Goals as goal

pub loop-k-preserved : goal.loop-k-preserved
loop-k-preserved c =
    let i = c.loop-k.k in
    let blocks : List (List ℕ) = c.padded.result ∷ c.padded-2.result ∷ c.padded-3.result ∷ c.padded-4.result ∷ c.padded-5.result
    ∷ c.padded-6.result ∷ c.padded-7.result ∷ c.padded-8.result ∷ [] in
    let block : (j : ℕ) → j < 8 → slice_index_or blocks j [] ≡ padded_message (slice_index_or c.args.messages.now j []) =
    below_eight _ c.padded.ensures.block c.padded-2.ensures.block c.padded-3.ensures.block c.padded-4.ensures.block
    c.padded-5.ensures.block c.padded-6.ensures.block c.padded-7.ensures.block c.padded-8.ensures.block in
    record {
      whole = search rules;
      read = λ j k low below. elim (cases_lt k i) [
        | inl before ↦ ap (λ v. slice_index v j) (get_or-set_other c.loop-k.words i k c.words_at.result [] (omega arith))
            ∙ c.loop-k.invariant.read j k low before
        | inr here ↦
            let e : i ≡ k = omega arith in
            rw (← e) (ap (λ v. slice_index v j) (get_or-set_same c.loop-k.words i c.words_at.result [] (omega arith))
            ∙ c.words_at.ensures j low ∙ ap (λ b. word_at b (4 * i)) (block j low))
      ];
    }

pub returns-clause-whole : goal.returns-clause-whole
returns-clause-whole c =
    below_eight _ c.padded.ensures.whole c.padded-2.ensures.whole c.padded-3.ensures.whole c.padded-4.ensures.whole
    c.padded-5.ensures.whole c.padded-6.ensures.whole c.padded-7.ensures.whole c.padded-8.ensures.whole

pub returns-clause-bytes : goal.returns-clause-bytes
returns-clause-bytes c =
    below_eight _ c.padded.ensures.bytes c.padded-2.ensures.bytes c.padded-3.ensures.bytes c.padded-4.ensures.bytes
    c.padded-5.ensures.bytes c.padded-6.ensures.bytes c.padded-7.ensures.bytes c.padded-8.ensures.bytes
