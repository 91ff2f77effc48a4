-- The most bytes of a statement: every frame is short enough.
use Rattle.std.proofs.Common.{◌≡◌, ℕ, ◌+◌, ◌-◌, ◌*◌, ◌≤◌, true, List, [], ◌∷◌, ◌++◌, length, drop, Some, refl, ap, ◌∙◌, arith, eqb}
use Rattle.std.specs.Prelude.{if◌then◌else◌}
use Rattle.std.specs.Int.{w16, w32, to_be_bytes}
use Rattle.std.specs.List.{flat_map, AllByRecursion}
use Rattle.std.proofs.lemmas.Bool.{eq-eqb, le-leb}
use Rattle.std.proofs.lemmas.List.{length-append, length-drop}
use Rattle.std.proofs.lemmas.List.Concat.{flat_map-cons}
use Rattle.ledger_model.specs.declared.statement.Report.{Report}
use Rattle.ledger_model.specs.declared.statement.Lock.{Lock}
use Rattle.ledger_model.specs.declared.statement.SignedReport.{SignedReport}
use Rattle.ledger_model.specs.declared.statement.SignedStatement.{SignedStatement}
use Rattle.ledger_model.specs.declared.statement.Statement.{Statement}
use Rattle.ledger_model.specs.declared.statement.Statement.TheVariants as statement
use Rattle.ledger_model.specs.Values.{Value, value_bytes, IsTx, IsValueIn}
use Rattle.ledger_model.specs.Spelling.{SpellsFrame, IsSignature, IsValueList, IsSignedReport, IsLock, IsStatement, list_bytes}
use Rattle.ledger_model.specs.Spelling.{report_bytes, signature_bytes, signed_bytes, lock_bytes, statement_bytes, body_bytes}
use Rattle.signed_frames.specs.Parts.{HoldsStatement}
use Rattle.signed_frames.proofs.FrameParts.{body_length, written}
use Rattle.ledger_model.specs.GrammarLaws.{IsBytes}
use Rattle.ledger_model.specs.Reading.{statement_at, signature_at, body_reading}
use Rattle.ledger_model.proofs.StatementReading.{statement_takes, signature_takes}
use Rattle.ledger_model.specs.Limits.{max_signature_len}
use Rattle.ledger_model.specs.Versions.{reads, first_byte, body_limit}
use Rattle.ledger_model.specs.Notes.{version_of}
use Rattle.ledger_model.specs.declared.version.Version.{Version}
use Rattle.ledger_model.specs.declared.version.Version.TheVariants.{One, Two}

-- pieces of at most `most` bytes each, one after the other
flat_bound : {X : Type 0} (P : X → Type 0) (f : X → List ℕ) (most : ℕ) → ((x : X) → P x → length (f x) ≤ most) → (xs : List X)
    → AllByRecursion P xs → length (flat_map f xs) ≤ most * length xs
flat_bound P f most each [] all = omega arith
flat_bound P f most each (x ∷ xs) all =
    omega (arith, each x all.0, flat_bound P f most each xs all.1, ap length (flat_map-cons f x xs), length-append (f x) (flat_map f xs))

-- the most bytes of a batch in a statement of this version, and of a report in a lock of it
abbrev value_most : Version → ℕ
value_most One = 1041
value_most Two = 4161

abbrev list_most : Version → ℕ
list_most One = 4165
list_most Two = 16645

abbrev signed_most : Version → ℕ
signed_most One = 11892
signed_most Two = 39972

abbrev lock_most : Version → ℕ
lock_most One = 143756
lock_most Two = 483836

value_bound : (version : Version) (v : Value) → IsValueIn version v → length (value_bytes v) ≤ value_most version
value_bound One v is = omega (arith, is.few, flat_bound IsTx (λ tx. length tx ∷ tx) 65 (λ tx t. omega (arith, t.short)) v is.each)
value_bound Two v is = omega (arith, is.few, flat_bound IsTx (λ tx. length tx ∷ tx) 65 (λ tx t. omega (arith, t.short)) v is.each)

list_bound : (version : Version) (vs : List Value) → IsValueList version vs → length (list_bytes vs) ≤ list_most version
list_bound One vs is = omega (arith, is.few, flat_bound (IsValueIn One) value_bytes 1041 (value_bound One) vs is.each)
list_bound Two vs is = omega (arith, is.few, flat_bound (IsValueIn Two) value_bytes 4161 (value_bound Two) vs is.each)

-- a report consists of eleven bytes, a batch and two lists
report_parts : (r : Report)
    → length (report_bytes r) ≡ 11 + length (value_bytes r.initial) + length (list_bytes r.proper) + length (list_bytes r.locked)
report_parts r =
    let start : List ℕ =
    first_byte r.version 1 ∷ to_be_bytes w32 r.height ++ to_be_bytes w32 r.phase ++ (r.signer ∷ (if r.all then 1 else 0) ∷ []) in
    omega (
      arith,
      length-append (start ++ value_bytes r.initial ++ list_bytes r.proper) (list_bytes r.locked),
      length-append (start ++ value_bytes r.initial) (list_bytes r.proper),
      length-append start (value_bytes r.initial),
    )

-- a signed report has at most `signed_most` bytes in a lock of this version
signed_bound : (version : Version) (s : SignedReport) → IsSignedReport version s → length (signed_bytes s) ≤ signed_most version
signed_bound version s is = of_versions version s.report.version is.read
    (value_bound s.report.version s.report.initial is.report.initial)
    (list_bound s.report.version s.report.proper is.report.proper) (list_bound s.report.version s.report.locked is.report.locked)
    (omega (arith, report_parts s.report, is.signature.short, length-append (report_bytes s.report) (signature_bytes s.signature)))
  where
    of_versions : (version own : Version) {v l m n : ℕ} → reads version own ≡ true → v ≤ value_most own → l ≤ list_most own
        → m ≤ list_most own
        → n ≤ 11 + v + l + m + 2510 → n ≤ signed_most version
    of_versions One One read value list last all = omega (arith, value, list, last, all)
    of_versions One Two read value list last all = absurd cc
    of_versions Two One read value list last all = omega (arith, value, list, last, all)
    of_versions Two Two read value list last all = omega (arith, value, list, last, all)

lock_bound : (l : Lock) → IsLock l → length (lock_bytes l) ≤ lock_most l.version
lock_bound l is = of_version l.version is.count.1 (value_bound l.version l.value is.value)
    (flat_bound (IsSignedReport l.version) signed_bytes (signed_most l.version) (signed_bound l.version) l.proof is.each)
    (omega (
      arith,
      length-append (start ++ value_bytes l.value ++ (length l.proof ∷ [])) (flat_map signed_bytes l.proof),
      length-append (start ++ value_bytes l.value) (length l.proof ∷ []),
      length-append start (value_bytes l.value),
    ))
  where
    start : List ℕ
    start = first_byte l.version 2 ∷ to_be_bytes w32 l.height ++ to_be_bytes w32 l.phase ++ (l.signer ∷ [])

    of_version : (version : Version) {count value reports all : ℕ} → count ≤ 12 → value ≤ value_most version
        → reports ≤ signed_most version * count → all ≤ 11 + value + reports → all ≤ lock_most version
    of_version One count value reports all = omega (arith, count, value, reports, all)
    of_version Two count value reports all = omega (arith, count, value, reports, all)

-- a statement of this version is as short as its longest lock
within_lock : (version : Version) (lists : ℕ) {value all : ℕ} → value ≤ value_most version → lists ≤ 2 * list_most version
    → all ≤ 11 + value + lists → all ≤ lock_most version
within_lock One lists value few all = omega (arith, value, few, all)
within_lock Two lists value few all = omega (arith, value, few, all)

version_bound : (s : Statement) → IsStatement s → length (statement_bytes s) ≤ lock_most (version_of s)
unfolding statement_bytes
version_bound (statement.Report r) is =
    within_lock r.version (length (list_bytes r.proper) + length (list_bytes r.locked)) (value_bound r.version r.initial is.initial)
    (omega (arith, list_bound r.version r.proper is.proper, list_bound r.version r.locked is.locked))
    (omega (arith, report_parts r))
version_bound (statement.Lock l) is = lock_bound l is
version_bound (statement.Ack a) is =
    let start : List ℕ = first_byte a.version 3 ∷ to_be_bytes w32 a.height ++ to_be_bytes w32 a.phase ++ (a.signer ∷ []) in
    within_lock a.version 0 (value_bound a.version a.value is.value) (omega arith)
    (omega (arith, length-append start (value_bytes a.value)))

-- any statement
pub statement_bound : (s : Statement) → IsStatement s → length (statement_bytes s) ≤ 483836
statement_bound s is = of_version (version_of s) (version_bound s is)
  where
    of_version : (version : Version) {n : ℕ} → n ≤ lock_most version → n ≤ 483836
    of_version One few = omega arith
    of_version Two few = few

-- so each body is short enough
pub body_bound : (s : SignedStatement) → IsStatement s.statement → length s.signature ≤ max_signature_len
    → length (body_bytes s) ≤ body_limit (version_of s.statement)
body_bound s is short = of_version (version_of s.statement) (version_bound s.statement is) short (omega (arith, body_length s))
  where
    of_version : (version : Version) {message signature body : ℕ} → message ≤ lock_most version → signature ≤ max_signature_len
        → body ≤ message + 2 + signature → body ≤ body_limit version
    of_version One message signature body = omega (arith, message, signature, body)
    of_version Two message signature body = omega (arith, message, signature, body)

-- A body whose statement and signature are read, with nothing after them, is one of the statement's version: it is never too long.
pub body_read : (version : Version) (bytes left rest : List ℕ) (statement : Statement) (signature : List ℕ) → IsBytes bytes
    → statement_at bytes ≡ Some (statement, left) → signature_at left ≡ Some (signature, rest) → length rest ≡ 0
    → reads version (version_of statement) ≡ true
    → body_reading version bytes ≡ Some (record { statement = statement; signature = signature })
unfolding body_reading
body_read version bytes left rest statement signature fits is_statement is_signature ends carried =
    let t = statement_takes bytes statement left fits is_statement in
    let u = signature_takes left signature rest t.2 is_signature in
    let s : SignedStatement = record { statement = statement; signature = signature } in
    let short : length bytes ≤ body_limit (version_of statement) = omega (
      arith,
      ends,
      body_bound s t.1 u.1.short,
      body_length s,
      ap length t.0,
      ap length u.0,
      length-append (statement_bytes statement) left,
      length-append (signature_bytes signature) rest,
    ) in
    let ended : eqb (length rest) 0 ≡ true = eq-eqb _ _ ends in
    rw (is_statement, is_signature, ended, carried, le-leb _ _ short) refl

-- what is written round the bytes of a statement that stand there is spelled
pub completed : (statement : Statement) (signature old headed ended bytes : List ℕ) (len : ℕ) → HoldsStatement old statement
    → IsSignature signature → len ≡ length old - 4 + 2 + length signature
    → headed ≡ to_be_bytes w32 len ++ drop 4 old → ended ≡ headed ++ to_be_bytes w16 (length signature) → bytes ≡ ended ++ signature
    → SpellsFrame Two bytes (record { statement = statement; signature = signature })
completed statement signature old headed ended bytes len h signed counts head end text =
    let short = body_bound (record { statement = statement; signature = signature }) h.spelled signed.short in
    written statement signature (drop 4 old) bytes len h.spelled signed short h.behind (omega (arith, counts, h.header, length-drop 4 old))
    (text ∙ ap (λ (x : List ℕ). x ++ signature) (end ∙ ap (λ (x : List ℕ). x ++ to_be_bytes w16 (length signature)) head))
