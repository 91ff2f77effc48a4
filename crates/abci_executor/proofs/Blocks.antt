-- The calls of a block, one after another.
use Rattle.ledger_model.specs.Meanings.{Meanings}
use Rattle.std.proofs.Common.{◌≡◌, ℕ, ◌+◌, ◌<◌, List, [], ◌∷◌, ◌++◌, Some, refl, sym, ap, subst, append_assoc, ◌∙◌, length, get_or, take}
use Rattle.std.specs.Prelude.{Option, None, IsSome, Result, Ok, Err, IfOk, OnErr}
use Rattle.std.proofs.lemmas.List.{append-nil, take_more, length-append}
use Rattle.std.proofs.lemmas.Grind.{flat_map-append}
use Rattle.sha2.specs.Sha256.{sha256}
use Rattle.ledger_model.specs.declared.reply.BlockResult.{BlockResult}
use Rattle.ledger_model.specs.Values.{Value}
use Rattle.ledger_model.specs.Applications.{Machine, accepted, codes, code_after, run, transactions_of}
use Rattle.ledger_model.specs.Meanings.{codes_by}
use Rattle.ledger_model.specs.Replies.{block_reply}
use Rattle.abci.specs.declared.info.Info.{Info}
use Rattle.abci.specs.Meaning.{state_after, without_work, StartsBlock, KeepsCommitted, DeliversTo, CommitsTo, ShowsOf, LosesWork}
use Rattle.abci_executor.specs.Blocks.{DeliversAll, IsReached, AddsBlock, ShowsBlocks}
use Rattle.abci_executor.proofs.Behind.{accepted-append, codes-snoc}

-- a machine that has a working state goes on from itself, and from step to step
pub stays_on : (old : Machine) → old.working ≡ Some old.committed → KeepsCommitted old old
stays_on old begun = (subst (λ (w : Option (List ℕ)). IsSome w) (sym begun) refl, refl)

pub goes_on : (old mid new : Machine) → KeepsCommitted old mid → KeepsCommitted mid new → KeepsCommitted old new
goes_on old mid new first second =
    (second.0, second.1 ∙ ap (λ (m : Machine). let n : Machine = record m { working = new.working } in n) (first.1))

-- before the first transaction
pub delivers_none : (meaning : Meanings) (old : Machine) → old.working ≡ Some old.committed → DeliversAll meaning old [] [] old
unfolding codes_by
delivers_none meaning old begun =
    λ txs led. let working : old.working ≡ Some (state_after meaning old.kind (txs ++ [])) =
    begun ∙ ap Some (led ∙ ap (state_after meaning old.kind) (sym (append-nil txs))) in
    (refl, ap (λ (w : Option (List ℕ)). let m : Machine = record old { working = w } in m) working)

-- one transaction more
pub delivers_more : (meaning : Meanings) (old mid new : Machine) (batch : List (List ℕ)) (tx : List ℕ) (answered : List ℕ) (code : ℕ)
    → DeliversAll meaning old batch answered mid
    → DeliversTo meaning mid tx code new → DeliversAll meaning old (batch ++ tx ∷ []) (answered ++ code ∷ []) new
delivers_more meaning old mid new batch tx answered code before delivered =
    λ txs led.
    let P : Machine → Type 0 = λ m. DeliversTo meaning m tx code new in
    let so_far = before txs led in
    let last = subst P so_far.1 delivered (txs ++ batch) refl in
    let all = codes-snoc (meaning old.kind) (accepted meaning old.kind [] txs) batch tx in
    let behind = accepted-append (meaning old.kind) [] txs batch in
    let one : code ≡ code_after meaning old.kind (accepted meaning old.kind (accepted meaning old.kind [] txs) batch) tx =
    last.0 ∙ ap (λ done. code_after meaning old.kind done tx) behind in
    let codes_are : answered ++ code ∷ [] ≡ codes meaning old.kind (accepted meaning old.kind [] txs) (batch ++ tx ∷ []) = cc in
    (codes_are, rw (← append_assoc txs batch (tx ∷ [])) (last.1))

-- one transaction more of a slice
pub delivers_next : (meaning : Meanings) (old mid new : Machine) (all : List (List ℕ)) (i : ℕ) (tx : List ℕ) (answered now : List ℕ)
    (code : ℕ) → i < length all
    → tx ≡ get_or all i tx
    → now ≡ answered ++ code ∷ [] → DeliversAll meaning old (take i all) answered mid → DeliversTo meaning mid tx code new
    → DeliversAll meaning old (take (i + 1) all) now new
delivers_next meaning old mid new all i tx answered now code within is_tx is_now before delivered =
    let more : take (i + 1) all ≡ take i all ++ tx ∷ [] =
    take_more all i tx within ∙ ap (λ (t : List ℕ). take i all ++ t ∷ []) (sym is_tx) in
    rw (more, is_now) (delivers_more meaning old mid new (take i all) tx answered code before delivered)

-- what running a block answers and leaves, where these transactions led to the committed state
pub record RunsBehind (meaning : Meanings) (txs : List (List ℕ)) (old : Machine) (batch : Value) (block : BlockResult)
    (new : Machine) : Type 0 where
  pub height : block.height ≡ old.height + 1
  pub codes_in_order : block.codes ≡ codes meaning old.kind (accepted meaning old.kind [] txs) batch
  pub hash : block.hash ≡ sha256 new.committed
  pub state : new ≡ record old { committed = state_after meaning old.kind (txs ++ batch); working = None; height = old.height + 1 }

-- what running a block answers and leaves, by the transactions before
abbrev pub RunsBlock : Meanings → Machine → Value → BlockResult → Machine → Type 0
RunsBlock meaning old batch block new =
    (txs : List (List ℕ)) → old.committed ≡ state_after meaning old.kind txs → RunsBehind meaning txs old batch block new

-- BeginBlock, the transactions, EndBlock and Commit
pub runs_block : (meaning : Meanings) (old begun delivered ended new : Machine) (batch : Value) (height : ℕ) (answered hash : List ℕ)
    → height ≡ old.height + 1
    → StartsBlock old begun
    → DeliversAll meaning begun batch answered delivered → ended ≡ delivered → CommitsTo ended hash new
    → RunsBlock meaning old batch (record { height = height; codes = answered; hash = hash }) new
runs_block meaning old begun delivered ended new batch height answered hash next begins delivers ends commits =
    λ txs led.
    let P : Machine → Type 0 = λ m. DeliversAll meaning m batch answered delivered in
    let all = subst P begins delivers txs led in
    let Q : Machine → Type 0 = λ m. CommitsTo m hash new in
    let last = subst Q (ends ∙ all.1) commits (state_after meaning old.kind (txs ++ batch)) refl in
    record {
      height = next;
      codes_in_order = all.0;
      hash = last.1 ∙ ap (λ (m : Machine). sha256 m.committed) (sym last.0);
      state = last.0;
    }

-- the same by blocks
pub adds_block : (meaning : Meanings) (old new : Machine) (batch : Value) (block : BlockResult) → RunsBlock meaning old batch block new
    → AddsBlock meaning (without_work old) batch block new
unfolding run block_reply
adds_block meaning old new batch block runs =
    λ batches led.
    let txs = transactions_of batches in
    let r = runs txs (ap (λ (m : Machine). m.committed) led) in
    let height : old.height ≡ length batches = ap (λ (m : Machine). m.height) led in
    let joined : txs ++ batch ≡ transactions_of (batches ++ batch ∷ []) =
    sym (flat_map-append (λ b. b) batches (batch ∷ []) ∙ ap (λ (ts : List (List ℕ)). txs ++ ts) (append-nil batch)) in
    let count : length (batches ++ batch ∷ []) ≡ length batches + 1 = length-append batches (batch ∷ []) in
    let state : new ≡ run meaning old.kind (batches ++ batch ∷ []) = rw (r.state, height, joined, count) refl in (
      block_is block (length batches + 1) (codes meaning old.kind (accepted meaning old.kind [] txs) batch)
          (sha256 (state_after meaning old.kind (transactions_of (batches ++ batch ∷ []))))
          (r.height ∙ ap (λ n. n + 1) height) r.codes_in_order (r.hash ∙ ap (λ (m : Machine). sha256 m.committed) state),
      state,
    )
  where
    block_is : (b : BlockResult) (h : ℕ) (answered hash : List ℕ) → b.height ≡ h → b.codes ≡ answered → b.hash ≡ hash
        → b ≡ record { height = h; codes = answered; hash = hash }
    block_is b h answered hash e1 e2 e3 = rw (← e1, ← e2, ← e3) refl

-- the same between blocks
pub adds_between : (meaning : Meanings) → {E : Type 0} (old new : Machine) (batch : Value) (answer : Result BlockResult E)
    → IfOk answer (λ block. AddsBlock meaning old batch block new)
    → IfOk answer (λ block. AddsBlock meaning old batch block (without_work new))
unfolding run
adds_between meaning old new batch (Ok block) adds = λ batches led. let a = adds batches led in (a.0, ap without_work (a.1))
adds_between meaning old new batch (Err fault) adds = tt

-- some blocks led to the machine that is left
pub reached_after : (meaning : Meanings) → {E : Type 0} (old new : Machine) (batch : Value) (answer : Result BlockResult E)
    → IsReached meaning (without_work old)
    → IfOk answer (λ block. AddsBlock meaning (without_work old) batch block new) → OnErr answer (LosesWork old new)
    → IsReached meaning (without_work new)
unfolding run
reached_after meaning old new batch (Ok block) reached adds lost =
    let a = adds reached.0 reached.1 in
    let kind : old.kind ≡ new.kind = sym (ap (λ (m : Machine). m.kind) a.1) in
    let all = reached.0 ++ batch ∷ [] in
    (all, ap without_work (a.1) ∙ ap (λ k. run meaning k all) kind)
reached_after meaning old new batch (Err fault) reached adds lost =
    let same : without_work new ≡ without_work old = ap without_work lost in
    subst (IsReached meaning) (sym same) reached

-- an application that ran no block has no unfinished one
pub opens : (meaning : Meanings) (m : Machine) → m ≡ run meaning m.kind [] → without_work m ≡ m
unfolding run
opens meaning m opening = ap (λ (w : Option (List ℕ)). let n : Machine =
    record m { working = w } in n) (sym (ap (λ (n : Machine). n.working) opening))

-- no blocks led to it
pub reached_first : (meaning : Meanings) (m : Machine) → m ≡ run meaning m.kind [] → IsReached meaning (without_work m)
reached_first meaning m opening = ([], opens meaning m opening ∙ opening)

-- what an application answers of itself is an answer about its blocks
pub shows_blocks : (meaning : Meanings) (m : Machine) (info : Info) → ShowsOf m info → ShowsBlocks meaning (without_work m) info
unfolding run
shows_blocks meaning m info tells = λ batches led. (
  tells.0 ∙ ap (λ (n : Machine). n.height) led,
  tells.1 ∙ ap (λ (n : Machine). sha256 n.committed) led,
)
