-- Replies are read back from their encoding.
use Rattle.std.proofs.Common.{◌≡◌, ℕ, List, [], ◌∷◌, ◌++◌, Some, Result, Ok}
use Rattle.std.proofs.Common.{Err, refl}
use Rattle.std.proofs.Common.{sym, eqb}
use Rattle.std.specs.Int.{w32, to_be_bytes}
use Rattle.std.proofs.lemmas.Bool.{eqb-true}
use Rattle.ledger_model.specs.declared.reply.LastRound.{LastRound}
use Rattle.ledger_model.specs.declared.reply.NotHeld.{NotHeld}
use Rattle.ledger_model.specs.declared.reply.NothingDecided.{NothingDecided}
use Rattle.ledger_model.specs.declared.reply.Reply.{Reply}
use Rattle.ledger_model.specs.declared.reply.Reply.TheVariants as reply
use Rattle.ledger_model.specs.declared.version.Version.{Version}
use Rattle.ledger_model.specs.Causes.{submit_refusal_number, propose_refusal_number, retire_refusal_number, cause_number}
use Rattle.ledger_model.specs.Values.{value_bytes, IsValueIn}
use Rattle.ledger_model.specs.GrammarLaws.{IsBytes}
use Rattle.ledger_model.proofs.Readers.{IsReader}
use Rattle.ledger_model.proofs.ValueReading.{value_reader}
use Rattle.history_bytes.specs.Histories.{ended_bytes, block_bytes, answer_bytes, code_bytes}
use Rattle.history_bytes.specs.Histories.{reply_bytes}
use Rattle.history_bytes.specs.HistorySpelling.{IsWord, IsEndedRound, IsBlock, IsAnswer, IsRefusal}
use Rattle.history_bytes.specs.HistorySpelling.{IsReply, reply_number}
use Rattle.history_bytes.specs.HistoryReading.{submitted_at, proposed_at, delivered_at, round_ended_at, executed_at, queried_at, retired_at}
use Rattle.history_bytes.specs.HistoryReading.{reply_at}
use Rattle.history_bytes.proofs.Combined.{if_some, IsTagged}
use Rattle.history_bytes.proofs.Combined.{branch_takes, nothing_bytes, IsNothing, nothing_reader}
use Rattle.history_bytes.proofs.Combined.{only_tagged}
use Rattle.history_bytes.proofs.Combined.{outcome_bytes, IsOutcome, outcome_reader}
use Rattle.history_bytes.proofs.FieldReaders.{word_reader}
use Rattle.history_bytes.proofs.ResultReaders.{ended_reader, block_reader, answer_reader}
use Rattle.history_bytes.proofs.RefusalReaders.{propose_tagged, propose_some, retire_tagged, retire_some, cause_tagged, cause_some}
use Rattle.history_bytes.proofs.RefusalReaders.{submit_tagged, submit_some}

submitted_reader : IsReader (outcome_bytes nothing_bytes submit_refusal_number code_bytes) (IsOutcome IsNothing IsRefusal) submitted_at
unfolding submitted_at
submitted_reader = outcome_reader nothing_reader submit_tagged submit_some

-- a refusal that is its number alone
abbrev no_bytes : {E : Type 0} → E → List ℕ
no_bytes _ = []

abbrev IsAny : {E : Type 0} → E → Type 0
IsAny _ = Unit {0}

abbrev number_1 : {E : Type 0} → E → ℕ
number_1 _ = 1

proposed_reader : (version : Version)
    → IsReader (outcome_bytes value_bytes propose_refusal_number no_bytes) (IsOutcome (IsValueIn version) IsAny) (proposed_at version)
unfolding proposed_at
proposed_reader version = outcome_reader (value_reader version) propose_tagged propose_some

delivered_reader : IsReader (outcome_bytes nothing_bytes cause_number no_bytes) (IsOutcome IsNothing IsAny) delivered_at
unfolding delivered_at
delivered_reader = outcome_reader nothing_reader cause_tagged cause_some

round_ended_reader : (version : Version)
    → IsReader (outcome_bytes ended_bytes number_1 no_bytes) (IsOutcome (IsEndedRound version) IsAny) (round_ended_at version)
unfolding round_ended_at
round_ended_reader version = outcome_reader (ended_reader version) (only_tagged (record {}) (λ (r : LastRound). refl)) (λ r. refl)

executed_reader : IsReader (outcome_bytes block_bytes number_1 no_bytes) (IsOutcome IsBlock IsAny) executed_at
unfolding executed_at
executed_reader = outcome_reader block_reader (only_tagged (record {}) (λ (r : NothingDecided). refl)) (λ r. refl)

queried_reader : IsReader (outcome_bytes answer_bytes number_1 no_bytes) (IsOutcome IsAnswer IsAny) queried_at
unfolding queried_at
queried_reader = outcome_reader answer_reader (only_tagged (record {}) (λ (r : NotHeld). refl)) (λ r. refl)

retired_reader : IsReader (outcome_bytes (to_be_bytes w32) retire_refusal_number no_bytes) (IsOutcome IsWord IsAny) retired_at
unfolding retired_at
retired_reader = outcome_reader word_reader retire_tagged retire_some

-- the encoding of a reply after its number
abbrev pub reply_tail : Reply → List ℕ
reply_tail (reply.Submitted result) = outcome_bytes nothing_bytes submit_refusal_number code_bytes result
reply_tail (reply.Proposed result) = outcome_bytes value_bytes propose_refusal_number no_bytes result
reply_tail (reply.Delivered result) = outcome_bytes nothing_bytes cause_number no_bytes result
reply_tail (reply.RoundEnded result) = outcome_bytes ended_bytes number_1 no_bytes result
reply_tail (reply.Executed result) = outcome_bytes block_bytes number_1 no_bytes result
reply_tail (reply.Queried result) = outcome_bytes answer_bytes number_1 no_bytes result
reply_tail (reply.Retired result) = outcome_bytes (to_be_bytes w32) retire_refusal_number no_bytes result

pub reply_parts : (r : Reply) → reply_bytes r ≡ reply_number r ∷ reply_tail r
reply_parts (reply.Submitted (Ok _)) = refl
reply_parts (reply.Submitted (Err r)) = refl
reply_parts (reply.Proposed (Ok batch)) = refl
reply_parts (reply.Proposed (Err r)) = refl
reply_parts (reply.Delivered (Ok _)) = refl
reply_parts (reply.Delivered (Err c)) = refl
reply_parts (reply.RoundEnded (Ok ended)) = refl
reply_parts (reply.RoundEnded (Err _)) = refl
reply_parts (reply.Executed (Ok block)) = refl
reply_parts (reply.Executed (Err _)) = refl
reply_parts (reply.Queried (Ok answer)) = refl
reply_parts (reply.Queried (Err _)) = refl
reply_parts (reply.Retired (Ok floor)) = refl
reply_parts (reply.Retired (Err r)) = refl

-- what makes an outcome one that can be encoded
outcome_is : (version : Version) {T E : Type 0} (kind : Result T E → Reply) (IsT : T → Type 0) (IsE : E → Type 0)
    → ((x : T) → IsT x → IsReply version (kind (Ok x)))
    → ((r : E) → IsE r → IsReply version (kind (Err r))) → (result : Result T E) → IsOutcome IsT IsE result → IsReply version (kind result)
outcome_is version kind IsT IsE success refused (Ok x) is = success x is
outcome_is version kind IsT IsE success refused (Err r) is = refused r is

reply_takes : (version : Version) (n : ℕ) (bytes : List ℕ) (r : Reply) (rest : List ℕ) → IsBytes bytes
    → reply_at version n bytes ≡ Some (r, rest)
    → (bytes ≡ reply_tail r ++ rest) × IsReply version r × IsBytes rest × (reply_number r ≡ n)
unfolding reply_at
reply_takes version n bytes r rest fits read =
    if_some (eqb n 1) _ _ (r, rest) read
    (λ is f. branch_takes submitted_reader reply_number reply_tail (IsReply version) reply.Submitted n (λ x. sym (eqb-true n 1 is))
    (λ x. refl)
    (outcome_is version reply.Submitted IsNothing IsRefusal (λ x i. tt) (λ x i. i)) bytes r rest fits f)
    (λ _ f1. if_some (eqb n 2) _ _ (r, rest) f1
    (λ is f. branch_takes (proposed_reader version) reply_number reply_tail (IsReply version) reply.Proposed n
    (λ x. sym (eqb-true n 2 is)) (λ x. refl)
    (outcome_is version reply.Proposed (IsValueIn version) IsAny (λ x i. i) (λ x i. tt)) bytes r rest fits f)
    (λ _ f2. if_some (eqb n 3) _ _ (r, rest) f2
    (λ is f. branch_takes delivered_reader reply_number reply_tail (IsReply version) reply.Delivered n (λ x. sym (eqb-true n 3 is))
    (λ x. refl)
    (λ x i. tt) bytes r rest fits f)
    (λ _ f3. if_some (eqb n 4) _ _ (r, rest) f3
    (λ is f. branch_takes (round_ended_reader version) reply_number reply_tail (IsReply version) reply.RoundEnded n
    (λ x. sym (eqb-true n 4 is)) (λ x. refl)
    (outcome_is version reply.RoundEnded (IsEndedRound version) IsAny (λ x i. i) (λ x i. tt)) bytes r rest fits f)
    (λ _ f4. if_some (eqb n 5) _ _ (r, rest) f4
    (λ is f. branch_takes executed_reader reply_number reply_tail (IsReply version) reply.Executed n (λ x. sym (eqb-true n 5 is))
    (λ x. refl)
    (outcome_is version reply.Executed IsBlock IsAny (λ x i. i) (λ x i. tt)) bytes r rest fits f)
    (λ _ f5. if_some (eqb n 6) _ _ (r, rest) f5
    (λ is f. branch_takes queried_reader reply_number reply_tail (IsReply version) reply.Queried n (λ x. sym (eqb-true n 6 is)) (λ x. refl)
    (outcome_is version reply.Queried IsAnswer IsAny (λ x i. i) (λ x i. tt)) bytes r rest fits f)
    (λ _ f6. if_some (eqb n 7) _ _ (r, rest) f6
    (λ is f. branch_takes retired_reader reply_number reply_tail (IsReply version) reply.Retired n (λ x. sym (eqb-true n 7 is)) (λ x. refl)
    (outcome_is version reply.Retired IsWord IsAny (λ x i. i) (λ x i. tt)) bytes r rest fits f)
    (λ _ none. absurd cc)))))))

reply_again : (version : Version) (r : Reply) (rest : List ℕ) → IsReply version r
    → reply_at version (reply_number r) (reply_tail r ++ rest) ≡ Some (r, rest)
unfolding reply_at
reply_again version (reply.Submitted (Ok x)) rest is = rw (submitted_reader.again (Ok x) rest tt) refl
reply_again version (reply.Submitted (Err r)) rest is = rw (submitted_reader.again (Err r) rest is) refl
reply_again version (reply.Proposed (Ok batch)) rest is = rw ((proposed_reader version).again (Ok batch) rest is) refl
reply_again version (reply.Proposed (Err r)) rest is = rw ((proposed_reader version).again (Err r) rest tt) refl
reply_again version (reply.Delivered (Ok x)) rest is = rw (delivered_reader.again (Ok x) rest tt) refl
reply_again version (reply.Delivered (Err c)) rest is = rw (delivered_reader.again (Err c) rest tt) refl
reply_again version (reply.RoundEnded (Ok ended)) rest is = rw ((round_ended_reader version).again (Ok ended) rest is) refl
reply_again version (reply.RoundEnded (Err l)) rest is = rw ((round_ended_reader version).again (Err l) rest tt) refl
reply_again version (reply.Executed (Ok block)) rest is = rw (executed_reader.again (Ok block) rest is) refl
reply_again version (reply.Executed (Err l)) rest is = rw (executed_reader.again (Err l) rest tt) refl
reply_again version (reply.Queried (Ok answer)) rest is = rw (queried_reader.again (Ok answer) rest is) refl
reply_again version (reply.Queried (Err l)) rest is = rw (queried_reader.again (Err l) rest tt) refl
reply_again version (reply.Retired (Ok floor)) rest is = rw (retired_reader.again (Ok floor) rest is) refl
reply_again version (reply.Retired (Err r)) rest is = rw (retired_reader.again (Err r) rest tt) refl

pub reply_tagged : (version : Version) → IsTagged reply_number reply_tail (IsReply version) (reply_at version)
reply_tagged version = record { takes = reply_takes version; again = reply_again version }
