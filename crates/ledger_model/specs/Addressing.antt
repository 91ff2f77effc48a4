-- Which replicas a frame goes to.
use Rattle.std.specs.Prelude.{ℕ, ◌==◌, Bool, not, ◌&&◌}
use Rattle.ledger_model.specs.declared.reply.Addressee.{Addressee}
use Rattle.ledger_model.specs.declared.reply.Addressee.TheVariants as addressee

-- a frame that replica `from` sent goes to `to`: never to its sender; to all others, or to the one that is addressed
abbrev pub goes_to : Addressee → ℕ → ℕ → Bool
goes_to addressee.All from to = not (to == from)
goes_to (addressee.One r) from to = not (to == from) && (to == r)
