-- Commands that are played, and what was written of their lines.
use Rattle.ledger_model.specs.Meanings.{Meanings}
use Rattle.std.proofs.Common.{◌≡◌, ℕ, Bool, true, false, List, [], ◌∷◌, ◌++◌, refl, sym, ap, subst, ◌∙◌, append_assoc}
use Rattle.std.specs.Prelude.{Option}
use Rattle.std.specs.Io.KnownBytes.{Appends}
use Rattle.std.proofs.KnownBytes.{Appends-nil, Appends-trans}
use Rattle.scenario_texts.specs.declared.command.Command.{Command}
use Rattle.simulation.specs.Playing.{SimulationView, Plays}
use Rattle.simulation.proofs.StepLemmas.{plays_append, plays_none, plays_one}
use Rattle.byte_streams.specs.Writing.{AppendsSome}
use Rattle.program.specs.Simulating.{PlaysWritten, PlaysWrittenSome, if_wanted}
use Rattle.byte_streams.proofs.WritingLemmas.{nothing_some, then_some}

-- the lines of both
wanted_append : (w : Bool) (text more : List ℕ) → if_wanted w text ++ if_wanted w more ≡ if_wanted w (text ++ more)
wanted_append true text more = refl
wanted_append false text more = refl

pub wanted_nil : (w : Bool) → if_wanted w [] ≡ []
wanted_nil true = refl
wanted_nil false = refl

-- lines that are wanted
pub wanted : (w : Bool) (text : List ℕ) (p q : Option (List ℕ)) → w ≡ true → Appends p q text → Appends p q (if_wanted w text)
wanted w text p q is written = subst (λ b. Appends p q (if_wanted b text)) (sym is) written

pub wanted_some : (w : Bool) (text : List ℕ) (p q : Option (List ℕ)) → w ≡ true → AppendsSome p q text → AppendsSome p q (if_wanted w text)
wanted_some w text p q is written = subst (λ b. AppendsSome p q (if_wanted b text)) (sym is) written

-- and lines that aren't
pub unwanted : (w : Bool) (text : List ℕ) (p : Option (List ℕ)) → w ≡ false → Appends p p (if_wanted w text)
unwanted w text p is = subst (λ b. Appends p p (if_wanted b text)) (sym is) (Appends-nil p)

-- no command
pub written_none : (meaning : Meanings) (w : Bool) (a : SimulationView) (p : Option (List ℕ)) → PlaysWritten meaning w a [] a p p
written_none meaning w a p = ([], (plays_none meaning a, subst (Appends p p) (sym (wanted_nil w)) (Appends-nil p)))

-- one command
pub written_one : (meaning : Meanings) (w : Bool) (a b : SimulationView) (c : Command) (text : List ℕ) (p q : Option (List ℕ))
    → Plays meaning a c text b
    → Appends p q (if_wanted w text) → PlaysWritten meaning w a (c ∷ []) b p q
written_one meaning w a b c text p q plays written = (text, (plays_one meaning a b c text plays, written))

-- a prefix of its lines
pub written_part : (meaning : Meanings) (w : Bool) (a b : SimulationView) (c : Command) (text : List ℕ) (p q : Option (List ℕ))
    → Plays meaning a c text b
    → AppendsSome p q (if_wanted w text) → PlaysWrittenSome meaning w a (c ∷ []) p q
written_part meaning w a b c text p q plays written =
    (text, (record { taken = c ∷ []; later = []; split = refl; new = b; plays = plays_one meaning a b c text plays }, written))

-- none of the commands
pub written_nothing : (meaning : Meanings) (w : Bool) (a : SimulationView) (cs : List Command) (p : Option (List ℕ))
    → PlaysWrittenSome meaning w a cs p p
written_nothing meaning w a cs p = (
  [],
  (
    record { taken = []; later = cs; split = refl; new = a; plays = plays_none meaning a },
    nothing_some p _,
  ),
)

-- commands, and then others
pub written_both : (meaning : Meanings) (w : Bool) (a b c : SimulationView) (xs ys : List Command) (p q r : Option (List ℕ))
    → PlaysWritten meaning w a xs b p q
    → PlaysWritten meaning w b ys c q r → PlaysWritten meaning w a (xs ++ ys) c p r
written_both meaning w a b c xs ys p q r first second = (
  first.0 ++ second.0,
  (
    plays_append meaning a b c xs ys first.0 second.0 first.1.0 second.1.0,
    subst (Appends p r) (wanted_append w first.0 second.0)
        (Appends-trans p q r (if_wanted w first.0) (if_wanted w second.0) first.1.1 second.1.1),
  ),
)

-- commands, and then the first of others
pub written_after : (meaning : Meanings) (w : Bool) (a b : SimulationView) (xs ys : List Command) (p q r : Option (List ℕ))
    → PlaysWritten meaning w a xs b p q
    → PlaysWrittenSome meaning w b ys q r → PlaysWrittenSome meaning w a (xs ++ ys) p r
written_after meaning w a b xs ys p q r first (text, (some, written)) = (
  first.0 ++ text,
  (
    record {
      taken = xs ++ some.taken;
      later = some.later;
      split = append_assoc xs some.taken some.later ∙ ap (λ l. xs ++ l) some.split;
      new = some.new;
      plays = plays_append meaning a b some.new xs some.taken first.0 text first.1.0 some.plays;
    },
    subst (AppendsSome p r) (wanted_append w first.0 text) (then_some p q r (if_wanted w first.0) (if_wanted w text) first.1.1 written),
  ),
)

-- the first of some commands are the first of more
pub written_longer : (meaning : Meanings) (w : Bool) (a : SimulationView) (xs ys : List Command) (p q : Option (List ℕ))
    → PlaysWrittenSome meaning w a xs p q
    → PlaysWrittenSome meaning w a (xs ++ ys) p q
written_longer meaning w a xs ys p q (text, (some, written)) = (
  text,
  (
    record {
      taken = some.taken;
      later = some.later ++ ys;
      split = sym (append_assoc some.taken some.later ys) ∙ ap (λ l. l ++ ys) some.split;
      new = some.new;
      plays = some.plays;
    },
    written,
  ),
)
