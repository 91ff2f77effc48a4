-- The answers to requests.
use Rattle.std.specs.Prelude.{◌≡◌, ℕ, List, codes, if◌then◌else◌}
use Rattle.hex.specs.Hex.{encode_lower}
use Rattle.ledger_model.specs.Signatures.{public_key, signature_of, verifies}
use Rattle.lm_ots.specs.Parameters.{numbers_of}
use Rattle.lms_speed.specs.declared.request.Request.{Request}
use Rattle.lms_speed.specs.declared.request.Request.TheVariants as request

-- the text is the answer to this request; a rate may be any text
abbrev pub IsAnswerTo : Request → List ℕ → Type 0
IsAnswerTo (request.Public pair) text = text ≡ encode_lower (public_key (numbers_of pair.params) pair.identifier pair.seed)
IsAnswerTo (request.Sign asked) text =
    text ≡ encode_lower (signature_of (numbers_of asked.pair.params) asked.pair.identifier asked.pair.seed asked.leaf asked.message.items)
IsAnswerTo (request.Verify asked) text =
    text ≡ (if verifies asked.key.items asked.message.items asked.signature.items then codes "true" else codes "false")
IsAnswerTo (request.Rate asked) text = Unit {0}
