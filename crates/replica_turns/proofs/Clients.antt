-- A replica's answers to its clients.
use Rattle.ledger_model.specs.Meanings.{Meanings}
use Rattle.std.proofs.Common.{◌≡◌, ℕ, true, ◌<◌, List, [], ◌∷◌, ◌++◌, length, Some, Ok, Err, refl, ap, ◌∙◌, sym, subst, arith, slice_get}
use Rattle.std.proofs.Common.{length-append, Result}
use Rattle.std.specs.Prelude.{if◌then◌else◌}
use Rattle.std.proofs.Math.Seq.{get_or-append_seam}
use Rattle.std.proofs.lemmas.Cmp.{nat_list_eq_equiv}
use Rattle.std.proofs.lemmas.Option.{slice_get_read}
use Rattle.ledger_model.specs.declared.config.Config.{Config}
use Rattle.ledger_model.specs.declared.event.Event.TheVariants as event
use Rattle.ledger_model.specs.declared.history.Entry.{Entry}
use Rattle.ledger_model.specs.declared.reply.Reply.{Reply}
use Rattle.ledger_model.specs.declared.reply.Reply.TheVariants as reply
use Rattle.ledger_model.specs.declared.reply.SubmitRefusal.{SubmitRefusal}
use Rattle.ledger_model.specs.Applications.{done_by, held_at}
use Rattle.ledger_model.specs.Audits.{is_taken}
use Rattle.ledger_model.specs.Commits.{commits_of, submit_reply}
use Rattle.ledger_model.specs.Rules.{Ring}
use Rattle.ledger_model.specs.Lawful.{Lawful}
use Rattle.ledger_model.specs.Replies.{query_reply}
use Rattle.ledger_model.specs.Values.{Value}
use Rattle.ledger_model.specs.declared.config.AppKind.{AppKind}
use Rattle.ledger_model.proofs.Lists.{get_last}
use Rattle.locked_replica.specs.Applying.{AppliesEvent, AppliesEach}
use Rattle.locked_replica.specs.States.{StateView}
use Rattle.locked_replica.proofs.Applying.{applies_one}
use Rattle.replica_turns.specs.Clients.{IsReceipt, is_tx_len, query_reply_in, query_reply_at, submit_events, with_index}

-- as of the last block a key is always answered
pub last_answer : (meaning : Meanings) (kind : AppKind) (batches : List Value) (key : List ℕ)
    → query_reply meaning kind batches key 0 ≡ Ok (record {
      height = length batches;
      value = held_at meaning kind
          (done_by meaning kind batches) key;
    })
unfolding query_reply
last_answer meaning kind batches key = refl

-- what a lawful reply to a query answers
pub lawful_query : (meaning : Meanings) (config : Config) (ring : Ring) (id : ℕ) (entries : List Entry) (key : List ℕ) (h : ℕ) (r : Reply)
    → Lawful meaning config ring id entries (event.Query key h) r
    → query_reply_in r ≡ Some (query_reply meaning config.kind (commits_of config id entries) key h)
lawful_query meaning config ring id entries key h (reply.Queried answer) law = ap Some law
lawful_query meaning config ring id entries key h (reply.Submitted r) law = absurd law
lawful_query meaning config ring id entries key h (reply.Proposed r) law = absurd law
lawful_query meaning config ring id entries key h (reply.Delivered r) law = absurd law
lawful_query meaning config ring id entries key h (reply.RoundEnded r) law = absurd law
lawful_query meaning config ring id entries key h (reply.Executed r) law = absurd law
lawful_query meaning config ring id entries key h (reply.Retired r) law = absurd law

-- what an entry that was just added answers to a query as of the last block
pub query_added : (meaning : Meanings) (config : Config) (ring : Ring) (id : ℕ) (old new : List Entry) (key : List ℕ) (h : ℕ) (r : Reply)
    (i : ℕ)
    → i ≡ length old → h ≡ 0 → new ≡ old ++ record { event = event.Query key h; reply = r } ∷ []
    → Lawful meaning config ring id old (event.Query key h) r
    → query_reply_at (slice_get new i) ≡ Some (query_reply meaning config.kind (commits_of config id old) key 0)
query_added meaning config ring id old new key h r i at last_one grown law =
    let e : Entry = record { event = event.Query key h; reply = r } in
    let last : slice_get new i ≡ Some e = rw (at, grown) (get_last old e) in
    subst (λ (n : ℕ). query_reply_at (slice_get new i) ≡ Some (query_reply meaning config.kind (commits_of config id old) key n)) last_one
    (ap query_reply_at last ∙ lawful_query meaning config ring id old key h r law)

-- an entry that took the transaction holds its receipt
receipt_held : (old new : List Entry) (tx : List ℕ) (answer : Result (Unit {0}) SubmitRefusal)
    → new ≡ old ++ record { event = event.Submit tx; reply = reply.Submitted answer } ∷ []
    → IsReceipt new tx (with_index (length old) answer)
receipt_held old new tx (Ok u) grown =
    let e : Entry = record { event = event.Submit tx; reply = reply.Submitted (Ok u) } in
    let last : slice_get new (length old) ≡ Some e = rw grown (get_last old e) in
    ap (is_taken tx) last ∙ nat_list_eq_equiv.refl tx
receipt_held old new tx (Err refusal) grown = tt

-- the receipt of an entry that was just added
pub receipt_added : (meaning : Meanings) (config : Config) (ring : Ring) (id : ℕ) (old new : List Entry) (tx bytes : List ℕ) (r : Reply)
    → bytes ≡ tx
    → new ≡ old ++ record { event = event.Submit bytes; reply = r } ∷ [] → Lawful meaning config ring id old (event.Submit bytes) r
    → IsReceipt new tx (with_index (length old) (submit_reply meaning config id old tx))
receipt_added meaning config ring id old new tx bytes (reply.Submitted answer) same grown law =
    receipt_held old new tx (submit_reply meaning config id old tx)
    (grown ∙ ap (λ a. old ++ record { event = event.Submit bytes; reply = reply.Submitted a } ∷ []) law
    ∙ ap (λ b. old ++ record { event = event.Submit b; reply = reply.Submitted (submit_reply meaning config id old b) } ∷ []) same)
receipt_added meaning config ring id old new tx bytes (reply.Queried r) same grown law = absurd law
receipt_added meaning config ring id old new tx bytes (reply.Proposed r) same grown law = absurd law
receipt_added meaning config ring id old new tx bytes (reply.Delivered r) same grown law = absurd law
receipt_added meaning config ring id old new tx bytes (reply.RoundEnded r) same grown law = absurd law
receipt_added meaning config ring id old new tx bytes (reply.Executed r) same grown law = absurd law
receipt_added meaning config ring id old new tx bytes (reply.Retired r) same grown law = absurd law

-- the pool's answer, as the entry that was just added has it
pub submit_answered : (meaning : Meanings) (config : Config) (ring : Ring) (id : ℕ) (old new : List Entry) (tx bytes : List ℕ) (r : Reply)
    (i : ℕ) (e : Entry)
    (answer : Result (Unit {0}) SubmitRefusal) → i ≡ length old → bytes ≡ tx
    → new ≡ old ++ record { event = event.Submit bytes; reply = r } ∷ [] → Lawful meaning config ring id old (event.Submit bytes) r
    → slice_get new i ≡ Some e → e.reply ≡ reply.Submitted answer → answer ≡ submit_reply meaning config id old tx
submit_answered meaning config ring id old new tx bytes (reply.Submitted a) i e answer at same grown law found told =
    let added : Entry = record { event = event.Submit bytes; reply = reply.Submitted a } in
    let last : slice_get new i ≡ Some added = rw (at, grown) (get_last old added) in
    let own : reply.Submitted answer ≡ reply.Submitted a = cc (last, found, told) in
    cc (own, law, same)
submit_answered meaning config ring id old new tx bytes (reply.Queried r) i e answer at same grown law found told = absurd law
submit_answered meaning config ring id old new tx bytes (reply.Proposed r) i e answer at same grown law found told = absurd law
submit_answered meaning config ring id old new tx bytes (reply.Delivered r) i e answer at same grown law found told = absurd law
submit_answered meaning config ring id old new tx bytes (reply.RoundEnded r) i e answer at same grown law found told = absurd law
submit_answered meaning config ring id old new tx bytes (reply.Executed r) i e answer at same grown law found told = absurd law
submit_answered meaning config ring id old new tx bytes (reply.Retired r) i e answer at same grown law found told = absurd law

-- the one event of a transaction that a pool may take
pub one_submit : (meaning : Meanings) (tx : List ℕ) (old new : StateView) → is_tx_len tx ≡ true
    → AppliesEvent meaning old (event.Submit tx) new
    → AppliesEach meaning old (submit_events tx) new
one_submit meaning tx old new fits applies =
    subst (λ b. AppliesEach meaning old (if b then event.Submit tx ∷ [] else []) new) (sym fits)
    (applies_one meaning old new (event.Submit tx) applies)
