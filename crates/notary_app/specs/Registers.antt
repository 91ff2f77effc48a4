-- What a register of documents means.
use Rattle.std.specs.Prelude.{ℕ, ◌==◌, not, List, ◌∷◌, ◌++◌, length, Option, is_some, position, if◌then◌else◌, option_map}
use Rattle.std.specs.List.{flat_map}
use Rattle.std.specs.Int.{w32, w64, to_be_bytes}
use Rattle.ledger_model.specs.Values.{same_bytes}
use Rattle.ledger_model.specs.Meanings.{Meaning}
use Rattle.ledger_model.specs.declared.config.Config.{Config}
use Rattle.ledger_model.specs.declared.world.WorldReply.{WorldReply}
use Rattle.ledger_model.specs.declared.world.WorldStep.{WorldStep}
use Rattle.ledger_model.specs.Rules.{Ring}
use Rattle.ledger_model.specs.Timelines.{AreReplicas}
use Rattle.ledger_model.specs.Worlds.{World, beginning, Runs, NoForgery, Refines}

-- the number of a digest among those that were registered, from 0 on
abbrev pub digest_number : List (List ℕ) → List ℕ → Option ℕ
digest_number done digest = position (λ d. same_bytes d digest) done

-- the code of a transaction, after these digests were registered: 1 if it hasn't 32 bytes, 2 if it is one of them
abbrev pub register_code : List (List ℕ) → List ℕ → ℕ
register_code done tx = if not (length tx == 32) then 1 else if is_some (digest_number done tx) then 2 else 0

-- the bytes of the state: 80, the number of digests, and the digests in order
unfoldable pub register_bytes : List (List ℕ) → List ℕ
register_bytes done = 0x80 ∷ to_be_bytes w64 (length done) ++ flat_map (λ d. d) done

-- A register takes each digest once, and CheckTx judges as a block does. The value under a digest is its number.
unfoldable pub register : Meaning
register = record {
  code = register_code;
  check = register_code;
  held = λ done digest. option_map (to_be_bytes w32) (digest_number done digest);
  state = register_bytes;
}

-- every run of a world of registers, in which nothing that was accepted was forged, is a run of one register
abbrev pub OneRegister : Type 0
OneRegister =
    (config : Config) (ring : Ring) (correct : List ℕ) (steps : List WorldStep) (answers : List WorldReply) (w : World)
    → AreReplicas config correct → Runs (λ kind. register) config ring (beginning correct) steps answers w → NoForgery config ring w
    → Refines (λ kind. register) config w
