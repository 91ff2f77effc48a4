-- Why a replica refuses an event or ignores a frame: the number of each reason, and the name of each cause.
use Rattle.std.specs.Prelude.{ℕ, List, codes}
use Rattle.ledger_model.specs.declared.reply.Ignored.{Ignored}
use Rattle.ledger_model.specs.declared.reply.Ignored.TheVariants as cause
use Rattle.ledger_model.specs.declared.reply.SubmitRefusal.{SubmitRefusal}
use Rattle.ledger_model.specs.declared.reply.SubmitRefusal.TheVariants as submit
use Rattle.ledger_model.specs.declared.reply.ProposeRefusal.{ProposeRefusal}
use Rattle.ledger_model.specs.declared.reply.ProposeRefusal.TheVariants as propose
use Rattle.ledger_model.specs.declared.reply.RetireRefusal.{RetireRefusal}
use Rattle.ledger_model.specs.declared.reply.RetireRefusal.TheVariants as retire

-- the number of a reason to refuse a transaction
abbrev pub submit_refusal_number : SubmitRefusal → ℕ
submit_refusal_number submit.Empty = 1
submit_refusal_number submit.TooLong = 2
submit_refusal_number submit.Duplicate = 3
submit_refusal_number submit.Full = 4
submit_refusal_number (submit.Rejected code) = 5

-- the number of a reason not to open a height
abbrev pub propose_refusal_number : ProposeRefusal → ℕ
propose_refusal_number propose.TooFar = 1
propose_refusal_number propose.AlreadyOpen = 2
propose_refusal_number propose.Closed = 3
propose_refusal_number propose.Retired = 4

-- the number of a reason not to raise the floor
abbrev pub retire_refusal_number : RetireRefusal → ℕ
retire_refusal_number retire.NotCommitted = 1
retire_refusal_number retire.NotAbove = 2

-- the number of a cause
abbrev pub cause_number : Ignored → ℕ
cause_number cause.Malformed = 1
cause_number cause.Signer = 2
cause_number cause.NoRow = 3
cause_number cause.WrongRound = 4
cause_number cause.WrongPhase = 5
cause_number cause.NotOwner = 6
cause_number cause.Repeated = 7
cause_number cause.BadSignature = 8
cause_number cause.BadProof = 9
cause_number cause.TableFull = 10
cause_number cause.NotMine = 11

-- the number and the name of a cause
abbrev pub cause_text : Ignored → List ℕ
cause_text cause.Malformed = codes "1 Malformed"
cause_text cause.Signer = codes "2 Signer"
cause_text cause.NoRow = codes "3 NoRow"
cause_text cause.WrongRound = codes "4 WrongRound"
cause_text cause.WrongPhase = codes "5 WrongPhase"
cause_text cause.NotOwner = codes "6 NotOwner"
cause_text cause.Repeated = codes "7 Repeated"
cause_text cause.BadSignature = codes "8 BadSignature"
cause_text cause.BadProof = codes "9 BadProof"
cause_text cause.TableFull = codes "10 TableFull"
cause_text cause.NotMine = codes "11 NotMine"
