-- The words of titles.
use Rattle.std.specs.Prelude.{ℕ, Bool, true, false, List, [], ◌∷◌, ◌++◌, codes, decimal, Option, Some, None, Result, Ok, Err}
use Rattle.ledger_model.specs.declared.reply.Addressee.{Addressee}
use Rattle.ledger_model.specs.declared.reply.Addressee.TheVariants as addressee
use Rattle.ledger_model.specs.declared.reply.Ignored.{Ignored}
use Rattle.ledger_model.specs.declared.statement.Ack.{Ack}
use Rattle.ledger_model.specs.declared.statement.Lock.{Lock}
use Rattle.ledger_model.specs.declared.statement.Report.{Report}
use Rattle.ledger_model.specs.declared.statement.Statement.{Statement}
use Rattle.ledger_model.specs.declared.statement.Statement.TheVariants as statement
use Rattle.ledger_model.specs.Values.{Value}
use Rattle.ledger_model.specs.Causes.{cause_text}
use Rattle.run_picture.specs.declared.sent_frames.SentFrame.{SentFrame}
use Rattle.run_picture.specs.Xml.{concatenated, value_xml, values_text}

-- `report of height 1 and phase 2 by replica 0`
abbrev pub head_words : List ℕ → ℕ → ℕ → ℕ → List ℕ
head_words kind h p r =
    concatenated (kind ∷ codes " of height " ∷ decimal h ∷ codes " and phase " ∷ decimal p ∷ codes " by replica " ∷ decimal r ∷ [])

-- the proper values of a report
abbrev pub proper_words : Bool → List Value → List ℕ
proper_words true vs = codes " every value"
proper_words false vs = values_text vs

-- a report
abbrev pub report_words : Report → List ℕ
report_words r =
    concatenated (head_words (codes "report") r.height r.phase r.signer ∷ codes "; initial " ∷ value_xml r.initial ∷ codes "; proper"
    ∷ proper_words r.all r.proper ∷ codes "; locked" ∷ values_text r.locked ∷ [])

-- a lock
abbrev pub lock_words : Lock → List ℕ
lock_words l = concatenated (head_words (codes "lock") l.height l.phase l.signer ∷ codes " on " ∷ value_xml l.value ∷ [])

-- an acknowledgement
abbrev pub ack_words : Ack → List ℕ
ack_words a = concatenated (head_words (codes "acknowledgement") a.height a.phase a.signer ∷ codes " of " ∷ value_xml a.value ∷ [])

-- what a frame is
abbrev pub statement_words : Option Statement → List ℕ
statement_words None = codes "bytes that are no frame"
statement_words (Some (statement.Report r)) = report_words r
statement_words (Some (statement.Lock l)) = lock_words l
statement_words (Some (statement.Ack a)) = ack_words a

-- ` by replica 1 in round 3 (entry 17)`
abbrev pub place_words : ℕ → ℕ → ℕ → List ℕ
place_words r c i = concatenated (codes " by replica " ∷ decimal r ∷ codes " in round " ∷ decimal c ∷ codes " (entry " ∷ decimal i
    ∷ codes ")" ∷ [])

-- to whom a frame is sent
abbrev pub addressee_words : Addressee → List ℕ
addressee_words addressee.All = codes " to all others"
addressee_words (addressee.One r) = codes " to replica " ++ decimal r

-- the answer to a delivered frame
abbrev pub answer_words : Result (Unit {0}) Ignored → List ℕ
answer_words (Ok u) = codes "; accepted"
answer_words (Err cause) = codes "; ignored for cause " ++ cause_text cause

-- where a delivered frame comes from
abbrev pub source_words : Option SentFrame → List ℕ
source_words (Some s) = codes "; sent" ++ place_words s.at.replica s.at.round s.at.entry
source_words None = codes "; sent from outside the picture"
