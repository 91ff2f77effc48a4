-- The text for a step, a round and a lie.
use Rattle.ledger_model.specs.Meanings.{Meanings}
use Rattle.std.proofs.Common.{◌≡◌, inl, inr, ℕ, ◌+◌, ◌<◌, Bool, true, false, List, [], ◌∷◌, ◌++◌, length, take, refl, sym, ap, subst}
use Rattle.std.proofs.Common.{◌∙◌, append_assoc, append-nil, arith}
use Rattle.std.specs.Prelude.{None, Result, Ok, Err, OnOk, nat_lt, get_or, slice_get, codes, MatchBool, if◌then◌else◌}
use Rattle.std.proofs.lemmas.Bool.{ltb-true, lt-ltb}
use Rattle.std.proofs.lemmas.List.{map-append}
use Rattle.ledger_model.specs.declared.config.Config.{Config}
use Rattle.ledger_model.specs.declared.statement.SignedReport.{SignedReport}
use Rattle.ledger_model.specs.declared.statement.SignedStatement.{SignedStatement}
use Rattle.ledger_model.specs.declared.statement.Statement.{Statement}
use Rattle.ledger_model.specs.declared.statement.Statement.TheVariants as statement
use Rattle.ledger_model.specs.declared.world.WorldStep.{WorldStep}
use Rattle.ledger_model.specs.declared.world.WorldStep.TheVariants as step
use Rattle.ledger_model.specs.declared.world.WorldReply.{WorldReply}
use Rattle.ledger_model.specs.declared.world.WorldReply.TheVariants as answer
use Rattle.ledger_model.specs.Groups.{is_correct}
use Rattle.ledger_model.specs.Spelling.{frame_bytes}
use Rattle.ledger_model.specs.Worlds.{World, entries_in, frames_sent}
use Rattle.key_ring.specs.declared.fault.SignFault.TheVariants as sign
use Rattle.adversary_net.specs.WorldViews.{WorldView, liar_at, world_of}
use Rattle.adversary_net.specs.Leaves.{IsAnswered}
use Rattle.scenario_texts.specs.declared.command.Lie.{Lie}
use Rattle.simulation.specs.Lies.{lying_lock}
use Rattle.printed_lines.specs.Lines.{with_line_feed, entry_text, undecided, step_text}
use Rattle.simulation.specs.Playing.{SimulationView, PrintsStep, EndsRound, Lies, LiesLock, PlaysRound, Signed, StepsEach, answer_text, correct_in}
use Rattle.simulation.specs.Playing.{injections_to, is_accepting, lie_receivers, pass_text, passes_of, target}
use Rattle.simulation.proofs.StepLemmas.{SteppedTo, EndedTo, ended_more, stepped_more}
use Rattle.simulation.proofs.StepTargets.{done_at}
use Rattle.ledger_model.proofs.Lists.{take_item}
use Rattle.ledger_model.specs.Rounds.{quorum}

-- what follows from what holds where a result is Ok
pub on_ok : {X E P Q : Type 0} → (P → Q) → (r : Result X E) → OnOk r P → OnOk r Q
on_ok f (Ok x) p = f p
on_ok f (Err e) p = tt

-- ---- one step

-- what is printed of the answer is what is printed of the step, by the heights that its replica had not decided
prints : (meaning : Meanings) (c d : WorldView) (s : WorldStep) (given : WorldReply) (heights : List ℕ) → IsAnswered meaning c s given d
    → (is_correct (world_of c).histories (target s) ≡ true → heights ≡ undecided c.config (target s) (entries_in (world_of c) (target s)))
    → answer_text d.config heights given (world_of d) ≡ step_text c.config (world_of c) given (world_of d)
prints meaning c d s (answer.Refused why) heights answered found = refl
prints meaning c d s (answer.Done r i) heights answered found =
    let at = done_at meaning c.config c.ring (world_of c) (world_of d) s r i answered.steps in
    let open_then : heights ≡ undecided c.config r (entries_in (world_of c) r) =
    found at.1 ∙ ap (λ q. undecided c.config q (entries_in (world_of c) q)) (sym at.0) in
    ap (λ config. entry_text config r heights (entries_in (world_of d) r) (slice_get (entries_in (world_of d) r) i)) answered.same.config
    ∙ ap (λ hs. entry_text c.config r hs (entries_in (world_of d) r) (slice_get (entries_in (world_of d) r) i)) open_then

-- the step is taken, and its text added
pub steps_so : (meaning : Meanings) (c d : WorldView) (s : WorldStep) (given : WorldReply) (heights before after : List ℕ)
    → IsAnswered meaning c s given d
    → (is_correct (world_of c).histories (target s) ≡ true → heights ≡ undecided c.config (target s) (entries_in (world_of c) (target s)))
    → after ≡ before ++ answer_text d.config heights given (world_of d) → PrintsStep meaning step_text c s given d before after
steps_so meaning c d s given heights before after answered found is = record {
  answered = answered;
  printed = is ∙ ap (λ t. before ++ t) (prints meaning c d s given heights answered found);
}

-- a pass whose frame is accepted
pub passes_quietly : (meaning : Meanings) (c d : WorldView) (s : WorldStep) (given : WorldReply) (before : List ℕ)
    → IsAnswered meaning c s given d
    → is_accepting given (world_of d) ≡ true
    → PrintsStep meaning pass_text c s given d before before
passes_quietly meaning c d s given before answered taken =
    record {
      answered = answered;
      printed =
          sym (append-nil before) ∙ ap (λ t. before ++ t) (sym (none (is_accepting given (world_of d)) _ taken));
    }
  where
    none : (b : Bool) (text : List ℕ) → b ≡ true → (if b then [] else text) ≡ []
    none b text is = rw is refl

-- a pass whose frame is not
pub passes_aloud : (meaning : Meanings) (c d : WorldView) (s : WorldStep) (given : WorldReply) (heights before after : List ℕ)
    → IsAnswered meaning c s given d
    → is_accepting given (world_of d) ≡ false
    → (is_correct (world_of c).histories (target s) ≡ true → heights ≡ undecided c.config (target s) (entries_in (world_of c) (target s)))
    → after ≡ before ++ answer_text d.config heights given (world_of d) → PrintsStep meaning pass_text c s given d before after
passes_aloud meaning c d s given heights before after answered left found is = record {
  answered = answered;
  printed = is ∙ ap (λ t. before ++ t) (prints meaning c d s given heights answered found
      ∙ sym (whole (is_accepting given (world_of d)) _ left));
}
  where
    whole : (b : Bool) (text : List ℕ) → b ≡ false → (if b then [] else text) ≡ text
    whole b text is = rw is refl

-- ---- rounds

-- a replica ends its round
pub ends_so : (meaning : Meanings) (correct : List ℕ) (c d : WorldView) (r : ℕ) (given : WorldReply) (before after : List ℕ)
    (passes all : List WorldStep)
    (sent : ℕ)
    → PrintsStep meaning step_text c (step.RoundEnd r) given d before after → sent ≡ length (frames_sent (entries_in (world_of c) r))
    → all ≡ passes ++ passes_of correct sent given (world_of d) → EndsRound meaning correct c r before after passes all d
ends_so meaning correct c d r given before after passes all sent answered count is = record {
  text = step_text c.config (world_of c) given (world_of d);
  end = record { given = given; answered = answered.answered; printed = refl };
  printed = answered.printed;
  passed = is ∙ ap (λ n. passes ++ passes_of correct n given (world_of d)) count;
}

-- all have, and what they sent is passed
pub round_so : (meaning : Meanings) (c mid d : WorldView) (before out after : List ℕ) (correct : List ℕ) (none passes : List WorldStep)
    → none ≡ []
    → correct ≡ correct_in c
    → EndedTo meaning correct c correct before out none passes mid → SteppedTo meaning pass_text mid passes out after d
    → (text : List ℕ) × (PlaysRound meaning c text d × (after ≡ before ++ text))
round_so meaning c mid d before out after correct none passes nothing is (ends, (more, (with_line_feed, printed, passed)))
    (text, (delivered, last)) =
    let all : passes ≡ more = passed ∙ ap (λ l. l ++ more) nothing in (
      ends ++ text,
      (
        record {
          ends = ends;
          passes = more;
          mid = mid;
          passed = text;
          ended = rw is at with_line_feed;
          delivered = rw all at delivered;
          printed = refl;
        },
        last ∙ ap (λ t. t ++ text) printed ∙ append_assoc before ends text,
      ),
    )

-- ---- lies

-- a lie is told or not, and its text added
abbrev pub LiesTo : Meanings → Lie → Statement → SimulationView → List ℕ → List ℕ → SimulationView → Type 0
LiesTo meaning l said p before after q = (text : List ℕ) × (Lies meaning l said p text q × (after ≡ before ++ text))

-- the liar signs, and the frame is injected and kept
pub tells_so : (meaning : Meanings) (l : Lie) (said : Statement) (p q mid : SimulationView) (frame : SignedStatement)
    (before after : List ℕ)
    → (frame.statement ≡ said) × Signed p.cluster l.liar said (Ok frame.signature) mid.cluster → mid.lies ≡ p.lies
    → (text : List ℕ) × (StepsEach meaning step_text mid.cluster (injections_to (lie_receivers mid.cluster l.to) (frame_bytes frame)) text
    q.cluster × (after ≡ before ++ text) × (q.lies ≡ mid.lies ++ frame_bytes frame ∷ []))
    → LiesTo meaning l said p before after q
tells_so meaning l said p q mid frame before after (is, signs) same_lies (text, (steps, printed, kept)) =
    let same : frame ≡ record { statement = said; signature = frame.signature } =
    ap (λ (x : Statement). let f : SignedStatement = record { statement = x; signature = frame.signature } in f) is in (
      text,
      (
        inl (
          Ok frame.signature,
          (
            record { mid = mid.cluster; signs = signs; injected = rw same at steps },
            kept ∙ ap (λ ls. ls ++ frame_bytes frame ∷ []) same_lies ∙ ap (λ f. p.lies ++ frame_bytes f ∷ []) same,
          ),
        ),
        printed,
      ),
    )

-- the liar has no leaf left
pub tells_exhausted : (meaning : Meanings) (l : Lie) (said : Statement) (p q : SimulationView) (before after : List ℕ)
    → Signed p.cluster l.liar said (Err sign.Exhausted) q.cluster → q.lies ≡ p.lies
    → after ≡ before ++ codes "exhausted\n" → LiesTo meaning l said p before after q
tells_exhausted meaning l said p q before after signs kept is = (
  with_line_feed (codes "exhausted"),
  (inl (Err sign.Exhausted, (signs, kept, refl)), is),
)

-- a replica that is no liar lies nothing
pub tells_nothing : (meaning : Meanings) (l : Lie) (said : Statement) (p q : SimulationView) (before : List ℕ)
    → (liar_at p.cluster l.liar ≡ None) × (q.cluster ≡ p.cluster) → q.lies ≡ p.lies
    → LiesTo meaning l said p before before q
tells_nothing meaning l said p q before (none, same) kept =
    let all : q ≡ p = ap (λ (c : WorldView). let s : SimulationView = record { cluster = c; lies = q.lies } in s) same
    ∙ ap (λ (ls : List (List ℕ)). let s : SimulationView = record { cluster = p.cluster; lies = ls } in s) kept in
    ([], (inr (none, all, refl), sym (append-nil before)))

-- too few reports serve
pub lock_cannot : (meaning : Meanings) (l : Lie) (proof : List SignedReport) (cannot : List ℕ) (p q : SimulationView)
    (before after : List ℕ)
    → length proof < quorum p.cluster.config → q ≡ p
    → after ≡ before ++ cannot → (text : List ℕ) × (LiesLock meaning l proof cannot p text q × (after ≡ before ++ text))
lock_cannot meaning l proof cannot p q before after few same is =
    (cannot, (by (nat_lt (length proof) (quorum p.cluster.config)) (lt-ltb _ _ few), is))
  where
    by : (b : Bool) → b ≡ true → MatchBool b ((cannot ≡ cannot) × (q ≡ p)) (Lies meaning l (statement.Lock (lying_lock l proof)) p cannot q)
    by b is = rw is (refl, same)

-- enough do
pub lock_can : (meaning : Meanings) (l : Lie) (proof : List SignedReport) (cannot : List ℕ) (p q : SimulationView) (before after : List ℕ)
    → length proof ≡ quorum p.cluster.config
    → LiesTo meaning l (statement.Lock (lying_lock l proof)) p before after q
    → (text : List ℕ) × (LiesLock meaning l proof cannot p text q × (after ≡ before ++ text))
lock_can meaning l proof cannot p q before after many (text, (lies, is)) =
    (text, (by (nat_lt (length proof) (quorum p.cluster.config)) refl, is))
  where
    by : (b : Bool) → nat_lt (length proof) (quorum p.cluster.config) ≡ b
        → MatchBool b ((text ≡ cannot) × (q ≡ p)) (Lies meaning l (statement.Lock (lying_lock l proof)) p text q)
    by true few = absurd (omega (arith, many, ltb-true _ _ few))
    by false enough = lies

-- ---- one more of a list

-- one replica more ends its round
pub ended_next : (meaning : Meanings) (correct : List ℕ) (c d e : WorldView) (i r : ℕ) (before mid after : List ℕ)
    (passes some all : List WorldStep)
    → i < length correct → r ≡ get_or correct i r
    → EndedTo meaning correct c (take i correct) before mid passes some d → EndsRound meaning correct d r mid after some all e
    → EndedTo meaning correct c (take (i + 1) correct) before after passes all e
ended_next meaning correct c d e i r before mid after passes some all within is so_far next =
    subst (λ rs. EndedTo meaning correct c rs before after passes all e) (sym (take_item correct i r within is))
    (ended_more meaning correct c d e (take i correct) r before mid after passes some all so_far next)

-- one step more is taken
pub stepped_next : (meaning : Meanings) (print : Config → World → WorldReply → World → List ℕ) (c d e : WorldView) (ss : List WorldStep)
    (i : ℕ) (s : WorldStep)
    (given : WorldReply) (before mid after : List ℕ)
    → i < length ss → s ≡ get_or ss i s → SteppedTo meaning print c (take i ss) before mid d
    → PrintsStep meaning print d s given e mid after
    → SteppedTo meaning print c (take (i + 1) ss) before after e
stepped_next meaning print c d e ss i s given before mid after within is so_far next =
    subst (λ l. SteppedTo meaning print c l before after e) (sym (take_item ss i s within is))
    (stepped_more meaning print c d e (take i ss) s given before mid after so_far next)

-- bytes are injected to one replica more
pub injected_next : (meaning : Meanings) (c d e : WorldView) (receivers : List ℕ) (bytes : List ℕ) (i r : ℕ) (given : WorldReply)
    (before mid after : List ℕ)
    → i < length receivers → r ≡ get_or receivers i r
    → SteppedTo meaning step_text c (injections_to (take i receivers) bytes) before mid d
    → PrintsStep meaning step_text d (step.Inject r bytes) given e mid after
    → SteppedTo meaning step_text c (injections_to (take (i + 1) receivers) bytes) before after e
injected_next meaning c d e receivers bytes i r given before mid after within is so_far next =
    subst (λ l. SteppedTo meaning step_text c l before after e)
    (sym (ap (λ rs. injections_to rs bytes) (take_item receivers i r within is)
    ∙ map-append (λ q. step.Inject q bytes) (take i receivers) (r ∷ [])))
    (stepped_more meaning step_text c d e (injections_to (take i receivers) bytes) (step.Inject r bytes) given before mid after so_far next)
