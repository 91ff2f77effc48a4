-- Facts of the part that a reader returns, one for each variant, so that each clause states one fact.
use Rattle.std.specs.Prelude.{⊤}
use Rattle.history_log.specs.declared.reading.LogPart.{LogPart}
use Rattle.history_log.specs.declared.reading.LogPart.TheVariants as part
use Rattle.history_log.specs.declared.reading.Record.{Record}

-- the fact about the record, if the part is one
abbrev pub IfRecord : LogPart → (Record → Type 0) → Type 0
IfRecord part.End P = ⊤
IfRecord (part.Record r) P = P r
IfRecord part.Torn P = ⊤
IfRecord part.Damaged P = ⊤

-- the part is the end
abbrev pub IsEnd : LogPart → Type 0
IsEnd part.End = ⊤
IsEnd (part.Record r) = ⊥
IsEnd part.Torn = ⊥
IsEnd part.Damaged = ⊥

-- the fact, if the part is torn
abbrev pub OnTorn : LogPart → Type 0 → Type 0
OnTorn part.End P = ⊤
OnTorn (part.Record r) P = ⊤
OnTorn part.Torn P = P
OnTorn part.Damaged P = ⊤

-- the fact, if the part is damaged
abbrev pub OnDamaged : LogPart → Type 0 → Type 0
OnDamaged part.End P = ⊤
OnDamaged (part.Record r) P = ⊤
OnDamaged part.Torn P = ⊤
OnDamaged part.Damaged P = P

-- the part is torn or damaged
abbrev pub IsUnfinished : LogPart → Type 0
IsUnfinished part.End = ⊥
IsUnfinished (part.Record r) = ⊥
IsUnfinished part.Torn = ⊤
IsUnfinished part.Damaged = ⊤
