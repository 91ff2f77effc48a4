-- Steps of a cluster, one after the other.
use Rattle.ledger_model.specs.Meanings.{Meanings}
use Rattle.std.proofs.Common.{◌≡◌, ℕ, List, [], ◌∷◌, ◌++◌, length, refl, sym, ap, subst, ◌∙◌, append_assoc, append-nil}
use Rattle.std.specs.Prelude.{Option, Some, None, IfNone, IfSome, Result, slice_get}
use Rattle.key_ring.specs.declared.fault.SignFault.{SignFault}
use Rattle.adversary_net.proofs.LiarSignatures.{signed_world}
use Rattle.ledger_model.specs.declared.config.Config.{Config}
use Rattle.ledger_model.specs.declared.world.WorldStep.{WorldStep}
use Rattle.ledger_model.specs.declared.world.WorldStep.TheVariants as step
use Rattle.ledger_model.specs.declared.world.WorldReply.{WorldReply}
use Rattle.ledger_model.specs.Worlds.{World, entries_in, frames_sent, Runs}
use Rattle.ledger_laws.proofs.WorldRuns.{runs_append}
use Rattle.scenario_texts.specs.declared.command.Command.{Command}
use Rattle.adversary_net.specs.WorldViews.{WorldView, IsSameCluster, SignsFor, world_of}
use Rattle.adversary_net.specs.Leaves.{IsAnswered, AreAnswered}
use Rattle.printed_lines.specs.Lines.{step_text}
use Rattle.simulation.specs.Playing.{SimulationView, Steps, StepsEach, EndsEach, EndsRound, PrintsStep, IsReachedByRun, Plays, PlaysAll, PlaysOther}
use Rattle.simulation.specs.Playing.{PlaysStep, passes_of, step_of}

-- ---- a run that goes on

pub stays : (meaning : Meanings) (c : WorldView) → IsReachedByRun meaning c c
unfolding Runs
stays meaning c = record { steps = []; answers = []; runs = refl; config = refl; ring = refl }

pub stays_in : (meaning : Meanings) (c d : WorldView) → world_of d ≡ world_of c → d.config ≡ c.config → d.ring ≡ c.ring
    → IsReachedByRun meaning c d
unfolding Runs
stays_in meaning c d world config ring = record { steps = []; answers = []; runs = world; config = config; ring = ring }

pub goes_on : (meaning : Meanings) (c d e : WorldView) → IsReachedByRun meaning c d → IsReachedByRun meaning d e
    → IsReachedByRun meaning c e
goes_on meaning c d e first next = record {
  steps = first.steps ++ next.steps;
  answers = first.answers ++ next.answers;
  runs = runs_append meaning c.config c.ring (world_of c) (world_of d)
      (world_of e) first.steps next.steps first.answers next.answers first.runs
      (subst (λ x. Runs meaning x c.ring (world_of d) next.steps next.answers (world_of e)) first.config
      (subst (λ x. Runs meaning d.config x (world_of d) next.steps next.answers (world_of e)) first.ring next.runs));
  config = next.config ∙ first.config;
  ring = next.ring ∙ first.ring;
}

pub goes_by : (meaning : Meanings) (c d : WorldView) (steps : List WorldStep) (answers : List WorldReply)
    → Runs meaning c.config c.ring (world_of c) steps answers (world_of d) → IsSameCluster c d → IsReachedByRun meaning c d
goes_by meaning c d steps answers runs same = record {
  steps = steps;
  answers = answers;
  runs = runs;
  config = same.config;
  ring = same.ring;
}

-- a liar's signature changes neither the configuration nor the keys of the others
same_config : {X : Type 0} (view : X → List ℕ) (c : WorldView) (r : ℕ) (message : List ℕ) (answer : Result X SignFault) (d : WorldView)
    → SignsFor view c r message answer d → (d.config ≡ c.config) × (d.ring ≡ c.ring)
same_config view c r message answer d (old, new, (at, signs, same)) =
    (ap (λ (x : WorldView). x.config) same, ap (λ (x : WorldView). x.ring) same)

-- it is no step
pub signs_on : (meaning : Meanings) → {X : Type 0} (view : X → List ℕ) (c : WorldView) (r : ℕ) (message : List ℕ)
    (answer : Result X SignFault) (d : WorldView)
    → SignsFor view c r message answer d → IsReachedByRun meaning c d
signs_on meaning view c r message answer d signs =
    let stay = same_config view c r message answer d signs in
    stays_in meaning c d (signed_world view c r message answer d signs) stay.0 stay.1

-- nor is a signature that isn't given
pub signs_or_not : (meaning : Meanings) → {X : Type 0} (view : X → List ℕ) (c : WorldView) (r : ℕ) (message : List ℕ)
    (answer : Option (Result X SignFault))
    (d : WorldView)
    → IfSome answer (λ given. SignsFor view c r message given d) → IfNone answer (d ≡ c) → IsReachedByRun meaning c d
signs_or_not meaning view c r message (Some given) d signs none = signs_on meaning view c r message given d signs
signs_or_not meaning view c r message None d signs none = subst (IsReachedByRun meaning c) (sym none) (stays meaning c)

-- ---- one step

-- it has an answer
pub some_answer : (meaning : Meanings) (c : WorldView) (s : WorldStep) (answers : List WorldReply) (d : WorldView)
    → AreAnswered meaning c (s ∷ []) answers d → slice_get answers 0 ≡ None → ⊥
unfolding AreAnswered
some_answer meaning c s [] d given none = given
some_answer meaning c s (a ∷ others) d given none = absurd cc

-- the first is its answer
pub the_answer : (meaning : Meanings) (c : WorldView) (s : WorldStep) (answers : List WorldReply) (given : WorldReply) (d : WorldView)
    → AreAnswered meaning c (s ∷ []) answers d → slice_get answers 0 ≡ Some given → IsAnswered meaning c s given d
unfolding AreAnswered
the_answer meaning c s [] given d answered is = absurd answered
the_answer meaning c s (a ∷ []) given d (mid, (one, same)) is =
    let first : a ≡ given = cc in
    subst (λ x. IsAnswered meaning c s x d) first (subst (IsAnswered meaning c s a) (sym same) one)
the_answer meaning c s (a ∷ b ∷ others) given d (mid, (one, more)) is = absurd more

-- ---- more steps

-- one step more
pub steps_snoc : (meaning : Meanings) (print : Config → World → WorldReply → World → List ℕ) (c d e : WorldView) (ss : List WorldStep)
    (s : WorldStep)
    (text more : List ℕ)
    → StepsEach meaning print c ss text d → Steps meaning print d s more e → StepsEach meaning print c (ss ++ s ∷ []) (text ++ more) e
unfolding StepsEach
steps_snoc meaning print c d e [] s text more (none, same) next = (
  e,
  (
    more,
    (
      [],
      (
        subst (λ x. Steps meaning print x s more e) same next,
        (refl, refl),
        ap (λ t. t ++ more) none
            ∙ sym (append-nil more),
      ),
    ),
  ),
)
steps_snoc meaning print c d e (x ∷ xs) s text more (mid, (first, (rest, (one, others, is)))) next = (
  mid,
  (
    first,
    (
      rest ++ more,
      (
        one,
        steps_snoc meaning print mid d e xs s rest more others next,
        ap (λ t. t ++ more) is
            ∙ append_assoc first rest more,
      ),
    ),
  ),
)

-- one end more
pub ends_snoc : (meaning : Meanings) (correct : List ℕ) (c d e : WorldView) (rs : List ℕ) (r : ℕ) (text more : List ℕ)
    (passes : List WorldStep)
    → EndsEach meaning correct c rs text passes d → (end : Steps meaning step_text d (step.RoundEnd r) more e)
    → EndsEach meaning correct c (rs ++ r ∷ []) (text ++ more)
    (passes ++ passes_of correct (length (frames_sent (entries_in (world_of d) r))) end.given (world_of e)) e
unfolding EndsEach
ends_snoc meaning correct c d e [] r text more passes (none, no_pass, same) end =
    subst (λ x. EndsEach meaning correct x (r ∷ []) (text ++ more)
    (passes ++ passes_of correct (length (frames_sent (entries_in (world_of d) r))) end.given (world_of e)) e) same (
      e,
      (
        more,
        (
          [],
          (
            [],
            (
              end,
              (refl, refl, refl),
              ap (λ t. t ++ more) none
                  ∙ sym (append-nil more),
              ap (λ l. l ++ passes_of correct (length (frames_sent (entries_in (world_of d) r))) end.given (world_of e))
                  no_pass ∙ sym (append-nil _),
            ),
          ),
        ),
      ),
    )
ends_snoc meaning correct c d e (q ∷ qs) r text more passes (mid, (first, (rest, (others, (one, next, is, passed))))) end =
    let added = passes_of correct (length (frames_sent (entries_in (world_of d) r))) end.given (world_of e) in (
      mid,
      (
        first,
        (
          rest ++ more,
          (
            others ++ added,
            (
              one,
              ends_snoc meaning correct mid d e qs r rest more others next end,
              ap (λ t. t ++ more) is ∙ append_assoc first rest more,
              ap (λ l. l ++ added) passed ∙ append_assoc _ others added,
            ),
          ),
        ),
      ),
    )

-- steps are taken one after the other, and what is printed of them is added
abbrev pub SteppedTo : Meanings → (Config → World → WorldReply → World → List ℕ) → WorldView → List WorldStep → List ℕ → List ℕ → WorldView
    → Type 0
SteppedTo meaning print c ss before after d = (text : List ℕ) × (StepsEach meaning print c ss text d × (after ≡ before ++ text))

-- no step
pub stepped_none : (meaning : Meanings) (print : Config → World → WorldReply → World → List ℕ) (c : WorldView) (before : List ℕ)
    → SteppedTo meaning print c [] before before c
unfolding StepsEach
stepped_none meaning print c before = ([], ((refl, refl), sym (append-nil before)))

-- one step more
pub stepped_more : (meaning : Meanings) (print : Config → World → WorldReply → World → List ℕ) (c d e : WorldView) (ss : List WorldStep)
    (s : WorldStep)
    (given : WorldReply) (before mid after : List ℕ)
    → SteppedTo meaning print c ss before mid d → PrintsStep meaning print d s given e mid after
    → SteppedTo meaning print c (ss ++ s ∷ []) before after e
stepped_more meaning print c d e ss s given before mid after (text, (steps, is)) next =
    let more = print d.config (world_of d) given (world_of e) in (
      text ++ more,
      (
        steps_snoc meaning print c d e ss s text more steps (record { given = given; answered = next.answered; printed = refl }),
        next.printed ∙ ap (λ t. t ++ more) is ∙ append_assoc before text more,
      ),
    )

-- replicas end their rounds one after the other; what is printed is added, and so are the passes of what they sent
abbrev pub EndedTo : Meanings → List ℕ → WorldView → List ℕ → List ℕ → List ℕ → List WorldStep → List WorldStep → WorldView → Type 0
EndedTo meaning correct c rs before after passes all d = (text : List ℕ) × ((more : List WorldStep)
    × (EndsEach meaning correct c rs text more d × (after ≡ before ++ text) × (all ≡ passes ++ more)))

-- no replica
pub ended_none : (meaning : Meanings) (correct : List ℕ) (c : WorldView) (before : List ℕ) (passes : List WorldStep)
    → EndedTo meaning correct c [] before before passes passes c
unfolding EndsEach
ended_none meaning correct c before passes = ([], ([], ((refl, refl, refl), sym (append-nil before), sym (append-nil passes))))

-- one replica more
pub ended_more : (meaning : Meanings) (correct : List ℕ) (c d e : WorldView) (rs : List ℕ) (r : ℕ) (before mid after : List ℕ)
    (passes some all : List WorldStep)
    → EndedTo meaning correct c rs before mid passes some d → EndsRound meaning correct d r mid after some all e
    → EndedTo meaning correct c (rs ++ r ∷ []) before after passes all e
ended_more meaning correct c d e rs r before mid after passes some all (text, (more, (ends, is, passed))) next =
    let added = passes_of correct (length (frames_sent (entries_in (world_of d) r))) next.end.given (world_of e) in (
      text ++ next.text,
      (
        more ++ added,
        (
          ends_snoc meaning correct c d e rs r text next.text more ends next.end,
          next.printed ∙ ap (λ t. t ++ next.text) is ∙ append_assoc before text next.text,
          next.passed ∙ ap (λ l. l ++ added) passed ∙ append_assoc passes more added,
        ),
      ),
    )

-- a command that is a step
pub plays_step : (meaning : Meanings) (p q : SimulationView) (c : Command) (s : WorldStep) (text : List ℕ) → step_of c ≡ Some s
    → PlaysStep meaning p s text q
    → Plays meaning p c text q
unfolding Plays
plays_step meaning p q c s text is plays = rw is plays

-- one that is none
pub plays_other : (meaning : Meanings) (p q : SimulationView) (c : Command) (text : List ℕ) → step_of c ≡ None
    → PlaysOther meaning p c text q → Plays meaning p c text q
unfolding Plays
plays_other meaning p q c text is plays = rw is plays

-- commands, and then others
pub plays_append : (meaning : Meanings) (p q r : SimulationView) (xs ys : List Command) (text more : List ℕ)
    → PlaysAll meaning p xs text q → PlaysAll meaning q ys more r → PlaysAll meaning p (xs ++ ys) (text ++ more) r
unfolding PlaysAll
plays_append meaning p q r [] ys text more (none, same) next =
    subst (λ x. PlaysAll meaning x ys (text ++ more) r) same (subst (λ t. PlaysAll meaning q ys (t ++ more) r) (sym none) next)
plays_append meaning p q r (x ∷ xs) ys text more (mid, (first, (rest, (one, others, is)))) next = (
  mid,
  (
    first,
    (
      rest ++ more,
      (
        one,
        plays_append meaning mid q r xs ys rest more others next,
        ap (λ t. t ++ more) is
            ∙ append_assoc first rest more,
      ),
    ),
  ),
)

-- no command
pub plays_none : (meaning : Meanings) (p : SimulationView) → PlaysAll meaning p [] [] p
unfolding PlaysAll
plays_none meaning p = (refl, refl)

-- one command
pub plays_one : (meaning : Meanings) (p q : SimulationView) (c : Command) (text : List ℕ) → Plays meaning p c text q
    → PlaysAll meaning p (c ∷ []) text q
unfolding PlaysAll
plays_one meaning p q c text one = (q, (text, ([], (one, (refl, refl), sym (append-nil text)))))
