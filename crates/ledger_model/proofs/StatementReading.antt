-- Statements and signatures are read back from their encoding.
use Rattle.std.proofs.Common.{◌≡◌, ℕ, zero, suc, ◌^◌, ◌<◌, ◌≤◌, Bool, true, false, ◌&&◌, cond, List, [], ◌∷◌, ◌++◌, length, Option, Some}
use Rattle.std.proofs.Common.{None, refl, sym, ap, subst, ◌∙◌, append_assoc, arith, leb, eqb}
use Rattle.std.specs.List.{flat_map, AllByRecursion}
use Rattle.std.specs.Int.{w16, w32, to_be_bytes}
use Rattle.std.proofs.lemmas.Bool.{and_parts, and_from, leb-true, le-leb, eqb-true}
use Rattle.ledger_model.specs.declared.statement.Report.{Report}
use Rattle.ledger_model.specs.declared.statement.Lock.{Lock}
use Rattle.ledger_model.specs.declared.statement.Ack.{Ack}
use Rattle.ledger_model.specs.declared.statement.SignedReport.{SignedReport}
use Rattle.ledger_model.specs.declared.statement.Statement.{Statement}
use Rattle.ledger_model.specs.declared.statement.Statement.TheVariants as statement
use Rattle.ledger_model.specs.Values.{value_bytes}
use Rattle.ledger_model.specs.Spelling.{IsPlace, IsReport, IsSignature, IsSignedReport, IsLock, IsAck, IsStatement, list_bytes}
use Rattle.ledger_model.specs.Spelling.{signature_bytes, signed_bytes, statement_bytes}
use Rattle.ledger_model.specs.GrammarLaws.{IsBytes}
use Rattle.ledger_model.specs.Reading.{◌>>=◌, only_if, guarded, bytes_at, byte_at, number_at, signature_at, positive_at, flag_at, Header}
use Rattle.ledger_model.specs.Reading.{place_at, report_at, signed_at, proof_at, lock_at, ack_at, statement_at}
use Rattle.ledger_model.proofs.Readers.{bind_some, only_if-some, guarded-some, some_is, each_byte, IsReader, many_takes}
use Rattle.ledger_model.proofs.Readers.{many_again, IsBytes-tail, byte_takes, bytes_take, bytes_again, wide16, wide32, number_reader}
use Rattle.ledger_model.proofs.ValueReading.{value_reader, list_reader}
use Rattle.ledger_model.proofs.ReadingSteps.{header_of, report_steps, signed_steps, lock_steps, ack_steps, KindSteps, statement_then}
use Rattle.ledger_model.specs.Limits.{max_signature_len}
use Rattle.ledger_model.specs.Versions.{reads, first_byte}
use Rattle.ledger_model.specs.declared.version.Version.{Version}
use Rattle.ledger_model.specs.declared.version.Version.TheVariants.{One, Two}
use Rattle.ledger_model.specs.Reading.{report_version, as_report, as_lock, as_ack}
use Rattle.ledger_model.proofs.VersionLaws.{reads_one}

-- ---- signatures

pub signature_takes : (bytes signature rest : List ℕ) → IsBytes bytes → signature_at bytes ≡ Some (signature, rest)
    → (bytes ≡ signature_bytes signature ++ rest) × IsSignature signature × IsBytes rest
unfolding signature_at
signature_takes bytes signature rest fits e =
    let a = bind_some (number_at w16 bytes) (λ len. guarded (leb len.0 max_signature_len) (bytes_at len.0 len.1)) (signature, rest) e in
    let g = guarded-some (leb a.0.0 max_signature_len) (bytes_at a.0.0 a.0.1) (signature, rest) a.2 in
    let short : a.0.0 ≤ max_signature_len = leb-true a.0.0 max_signature_len g.0 in
    let first = (number_reader w16 (2 ^ 16) wide16).takes bytes a.0.0 a.0.1 fits a.1 in
    let text = bytes_take a.0.0 a.0.1 signature rest first.2 g.1 in
    let len : length signature ≡ a.0.0 = text.3 in
    let parts : bytes ≡ (to_be_bytes w16 (length signature) ++ signature) ++ rest =
    first.0 ∙ ap (λ (t : List ℕ). to_be_bytes w16 a.0.0 ++ t) text.0 ∙ ap (λ (k : ℕ). to_be_bytes w16 k ++ (signature ++ rest)) (sym len)
    ∙ sym (append_assoc (to_be_bytes w16 (length signature)) signature rest) in
    (parts, record { short = subst (λ (k : ℕ). k ≤ max_signature_len) (sym len) short; bytes = each_byte signature text.1 }, text.2)

pub signature_again : (signature rest : List ℕ) → IsSignature signature
    → signature_at (signature_bytes signature ++ rest) ≡ Some (signature, rest)
unfolding signature_at
signature_again signature rest is =
    let short : length signature ≤ max_signature_len = is.short in
    let test : leb (length signature) max_signature_len ≡ true = le-leb _ _ short in
    ap signature_at (append_assoc (to_be_bytes w16 (length signature)) signature rest)
    ∙ rw ((number_reader w16 (2 ^ 16) wide16).again (length signature) (signature ++ rest) (omega arith), test, bytes_again signature rest)
    refl

pub signature_reader : IsReader signature_bytes IsSignature signature_at
signature_reader = record { takes = signature_takes; again = signature_again }

-- ---- heights, phases and flags

abbrev pub IsPositive : ℕ → Type 0
IsPositive n = (1 ≤ n) × (n < 2 ^ 32)

pub positive_reader : IsReader (to_be_bytes w32) IsPositive positive_at
unfolding positive_at
positive_reader = record {
  takes = λ bytes n rest fits e.
      let a = bind_some (number_at w32 bytes) (λ p. only_if (leb 1 p.0) p) (n, rest) e in
      let o = only_if-some (leb 1 a.0.0) a.0 (n, rest) a.2 in
      let first = (number_reader w32 (2 ^ 32) wide32).takes bytes a.0.0 a.0.1 fits a.1 in
      subst (λ (p : ℕ × List ℕ). (bytes ≡ to_be_bytes w32 p.0 ++ p.1) × IsPositive p.0 × IsBytes p.1) o.1
      (first.0, (leb-true 1 a.0.0 o.0, first.1), first.2);
  again = λ n rest is.
      rw ((number_reader w32 (2 ^ 32) wide32).again n rest is.1, le-leb 1 n is.0) refl;
}

abbrev pub flag_bytes : Bool → List ℕ
flag_bytes flag = cond flag 1 0 ∷ []

-- every flag may be spelled
abbrev pub IsFlag : Bool → Type 0
IsFlag flag = Unit {0}

pub flag_takes : (bytes : List ℕ) (flag : Bool) (rest : List ℕ) → IsBytes bytes → flag_at bytes ≡ Some (flag, rest)
    → (bytes ≡ flag_bytes flag ++ rest) × IsFlag flag × IsBytes rest
unfolding flag_at
flag_takes [] flag rest fits e = absurd cc
flag_takes (zero ∷ bytes) flag rest fits e =
    subst (λ (p : Bool × List ℕ). (0 ∷ bytes ≡ flag_bytes p.0 ++ p.1) × IsFlag p.0 × IsBytes p.1) (some_is (false, bytes) (flag, rest) e)
    (refl, tt, IsBytes-tail 0 bytes fits)
flag_takes (suc zero ∷ bytes) flag rest fits e =
    subst (λ (p : Bool × List ℕ). (1 ∷ bytes ≡ flag_bytes p.0 ++ p.1) × IsFlag p.0 × IsBytes p.1) (some_is (true, bytes) (flag, rest) e)
    (refl, tt, IsBytes-tail 1 bytes fits)
flag_takes (suc (suc b) ∷ bytes) flag rest fits e = absurd cc

pub flag_again : (flag : Bool) (rest : List ℕ) → IsFlag flag → flag_at (flag_bytes flag ++ rest) ≡ Some (flag, rest)
unfolding flag_at
flag_again true rest is = refl
flag_again false rest is = refl

pub flag_reader : IsReader flag_bytes IsFlag flag_at
flag_reader = record { takes = flag_takes; again = flag_again }

-- ---- places

abbrev pub place_bytes : Header → List ℕ
place_bytes p = to_be_bytes w32 p.height ++ to_be_bytes w32 p.phase ++ p.signer ∷ []

abbrev pub IsPlaced : Header → Type 0
IsPlaced p = IsPlace p.height p.phase p.signer

pub place_takes : (bytes : List ℕ) (p : Header) (rest : List ℕ) → IsBytes bytes → place_at bytes ≡ Some (p, rest)
    → (bytes ≡ place_bytes p ++ rest) × IsPlaced p × IsBytes rest
unfolding place_at
place_takes bytes p rest fits e =
    let a = bind_some (positive_at bytes)
    (λ height. positive_at height.1 >>= λ phase. byte_at phase.1 >>= λ signer. Some
    (record { height = height.0; phase = phase.0; signer = signer.0 }, signer.1)) (p, rest) e in
    let b = bind_some (positive_at a.0.1)
    (λ phase. byte_at phase.1 >>= λ signer. Some (record { height = a.0.0; phase = phase.0; signer = signer.0 }, signer.1)) (p, rest)
    a.2 in
    let c = bind_some (byte_at b.0.1) (λ signer. Some (record { height = a.0.0; phase = b.0.0; signer = signer.0 }, signer.1)) (p, rest)
    b.2 in
    let height = positive_reader.takes bytes a.0.0 a.0.1 fits a.1 in
    let phase = positive_reader.takes a.0.1 b.0.0 b.0.1 height.2 b.1 in
    let signer = byte_takes b.0.1 c.0.0 c.0.1 phase.2 c.1 in
    let made : Header × List ℕ = (record { height = a.0.0; phase = b.0.0; signer = c.0.0 }, c.0.1) in
    let parts : bytes ≡ place_bytes made.0 ++ made.1 =
    height.0 ∙ ap (λ (t : List ℕ). to_be_bytes w32 a.0.0 ++ t) (phase.0 ∙ ap (λ (t : List ℕ). to_be_bytes w32 b.0.0 ++ t) signer.0)
    ∙ simp append_assoc in
    subst (λ (q : Header × List ℕ). (bytes ≡ place_bytes q.0 ++ q.1) × IsPlaced q.0 × IsBytes q.1) (some_is made (p, rest) c.2)
    (parts, record { heights = height.1; phases = phase.1; signers = signer.1 }, signer.2)

pub place_again : (p : Header) (rest : List ℕ) → IsPlaced p → place_at (place_bytes p ++ rest) ≡ Some (p, rest)
unfolding place_at
place_again p rest is =
    let regrouped : place_bytes p ++ rest ≡ to_be_bytes w32 p.height ++ (to_be_bytes w32 p.phase ++ (p.signer ∷ rest)) =
    simp append_assoc in
    ap place_at regrouped
    ∙ rw (
      positive_reader.again p.height (to_be_bytes w32 p.phase ++ (p.signer ∷ rest)) is.heights,
      positive_reader.again p.phase
          (p.signer ∷ rest) is.phases,
    ) refl

pub place_reader : IsReader place_bytes IsPlaced place_at
place_reader = record { takes = place_takes; again = place_again }

-- ---- reports

-- what follows a report's first byte
abbrev pub report_tail : Report → List ℕ
report_tail r =
    to_be_bytes w32 r.height ++ to_be_bytes w32 r.phase ++ (r.signer ∷ cond r.all 1 0 ∷ [])
    ++ value_bytes r.initial ++ list_bytes r.proper ++ list_bytes r.locked

report_regroup : (h p v l m rest : List ℕ) (s f : ℕ)
    → (h ++ p ++ s ∷ []) ++ ((f ∷ []) ++ (v ++ (l ++ (m ++ rest)))) ≡ (h ++ p ++ (s ∷ f ∷ []) ++ v ++ l ++ m) ++ rest
report_regroup h p v l m rest s f = simp append_assoc

-- a report of this version that can be encoded
abbrev pub IsReportIn : Version → Report → Type 0
IsReportIn version r = (r.version ≡ version) × IsReport r

pub report_takes : (version : Version) (bytes : List ℕ) (r : Report) (rest : List ℕ) → IsBytes bytes → report_at version bytes
    ≡ Some (r, rest)
    → (bytes ≡ report_tail r ++ rest) × IsReportIn version r × IsBytes rest
report_takes version bytes r rest fits e =
    let s = report_steps version bytes r rest e in
    let a = place_reader.takes bytes (header_of r.height r.phase r.signer) s.after_place fits s.place_is in
    let b = flag_reader.takes s.after_place r.all s.after_flag a.2 s.flag_is in
    let c = (value_reader r.version).takes s.after_flag r.initial s.after_initial b.2 s.initial_is in
    let d = (list_reader r.version).takes s.after_initial r.proper s.after_proper c.2 s.proper_is in
    let f = (list_reader r.version).takes s.after_proper r.locked rest d.2 s.locked_is in
    let parts : bytes ≡ report_tail r ++ rest =
    a.0 ∙ ap (λ (t : List ℕ). place_bytes (header_of r.height r.phase r.signer) ++ t)
    (b.0 ∙ ap (λ (t : List ℕ). flag_bytes r.all ++ t)
    (c.0 ∙ ap (λ (t : List ℕ). value_bytes r.initial ++ t) (d.0 ∙ ap (λ (t : List ℕ). list_bytes r.proper ++ t) f.0)))
    ∙ report_regroup (to_be_bytes w32 r.height) (to_be_bytes w32 r.phase) (value_bytes r.initial) (list_bytes r.proper)
    (list_bytes r.locked) rest r.signer (cond r.all 1 0) in
    let is : IsReport r =
    record { place = a.1; initial = c.1; proper = d.1; some = leb-true 1 (length r.proper) s.some; locked = f.1 } in
    (parts, (s.version_is, is), f.2)

pub report_again : (r : Report) (rest : List ℕ) → IsReport r → report_at r.version (report_tail r ++ rest) ≡ Some (r, rest)
unfolding report_at
report_again r rest is =
    let version = r.version in
    let place = header_of r.height r.phase r.signer in
    let after_proper = list_bytes r.locked ++ rest in
    let after_initial = list_bytes r.proper ++ after_proper in
    let after_flag = value_bytes r.initial ++ after_initial in
    let after_place = flag_bytes r.all ++ after_flag in
    ap (report_at version) (sym (report_regroup (to_be_bytes w32 r.height) (to_be_bytes w32 r.phase) (value_bytes r.initial)
    (list_bytes r.proper)
    (list_bytes r.locked) rest r.signer (cond r.all 1 0)))
    ∙ rw (
      place_reader.again place after_place is.place,
      flag_reader.again r.all after_flag tt,
      (value_reader version).again r.initial after_initial is.initial,
      (list_reader version).again r.proper after_proper is.proper,
      le-leb 1 (length r.proper) is.some,
      (list_reader version).again r.locked rest is.locked,
    ) refl

-- ---- signed reports and proofs

-- the first byte of a report in a lock encodes its version
report_version-is : (version : Version) (first : ℕ) (own : Version) → report_version version first ≡ Some own
    → (first ≡ first_byte own 1) × (reads version own ≡ true)
report_version-is version first own e = of_tests (eqb first 1) (eqb first 17) refl refl e
  where
    of_tests : (one two : Bool) → eqb first 1 ≡ one → eqb first 17 ≡ two
        → cond one (Some One) (cond two (only_if (reads version Two) Two) None) ≡ Some own
        → (first ≡ first_byte own 1) × (reads version own ≡ true)
    of_tests true two is_one is_two read =
        subst (λ (v : Version). (first ≡ first_byte v 1) × (reads version v ≡ true)) (some_is One own read)
        (eqb-true first 1 is_one, reads_one version)
    of_tests false true is_one is_two read =
        let o = only_if-some (reads version Two) Two own read in
        subst (λ (v : Version). (first ≡ first_byte v 1) × (reads version v ≡ true)) o.1 (eqb-true first 17 is_two, o.0)
    of_tests false false is_one is_two read = absurd cc

report_version-again : (version own : Version) → reads version own ≡ true → report_version version (first_byte own 1) ≡ Some own
report_version-again version One read = refl
report_version-again version Two read = rw read refl

pub signed_takes : (version : Version) (bytes : List ℕ) (s : SignedReport) (rest : List ℕ) → IsBytes bytes
    → signed_at version bytes ≡ Some (s, rest)
    → (bytes ≡ signed_bytes s ++ rest) × IsSignedReport version s × IsBytes rest
signed_takes version bytes s rest fits e =
    let t = signed_steps version bytes s rest e in
    let a = byte_takes bytes t.first t.after_first fits t.first_is in
    let b = report_version-is version t.first t.own t.own_is in
    let c = report_takes t.own t.after_first s.report t.after_report a.2 t.report_is in
    let d = signature_reader.takes t.after_report s.signature rest c.2 t.signature_is in
    let version_is : t.own ≡ s.report.version = sym c.1.0 in
    let parts : bytes ≡ signed_bytes s ++ rest =
    a.0 ∙ ap (λ (k : ℕ). k ∷ t.after_first) (b.0 ∙ ap (λ (v : Version). first_byte v 1) version_is)
    ∙ ap (λ (x : List ℕ). first_byte s.report.version 1 ∷ x) (c.0 ∙ ap (λ (x : List ℕ). report_tail s.report ++ x) d.0
    ∙ sym (append_assoc (report_tail s.report) (signature_bytes s.signature) rest)) in
    (parts, record { read = subst (λ (v : Version). reads version v ≡ true) version_is b.1; report = c.1.1; signature = d.1 }, d.2)

pub signed_again : (version : Version) (s : SignedReport) (rest : List ℕ) → IsSignedReport version s
    → signed_at version (signed_bytes s ++ rest) ≡ Some (s, rest)
unfolding signed_at
signed_again version s rest is =
    ap (λ (t : List ℕ). signed_at version (first_byte s.report.version 1 ∷ t))
    (append_assoc (report_tail s.report) (signature_bytes s.signature) rest)
    ∙ rw (
      report_version-again version s.report.version is.read,
      report_again s.report (signature_bytes s.signature ++ rest) is.report,
      signature_reader.again s.signature rest
          is.signature,
    ) refl

pub signed_reader : (version : Version) → IsReader signed_bytes (IsSignedReport version) (signed_at version)
signed_reader version = record { takes = signed_takes version; again = signed_again version }

pub proof_takes : (version : Version) (n : ℕ) (bytes : List ℕ) (proof : List SignedReport) (rest : List ℕ) → IsBytes bytes
    → proof_at version n bytes ≡ Some (proof, rest)
    → (bytes ≡ flat_map signed_bytes proof ++ rest) × AllByRecursion (IsSignedReport version) proof × IsBytes rest × (length proof ≡ n)
unfolding proof_at
proof_takes version = many_takes (signed_reader version) (proof_at version) (λ bytes. refl) (λ n bytes. refl)

pub proof_again : (version : Version) (proof : List SignedReport) (rest : List ℕ) → AllByRecursion (IsSignedReport version) proof
    → proof_at version (length proof) (flat_map signed_bytes proof ++ rest) ≡ Some (proof, rest)
unfolding proof_at
proof_again version = many_again (signed_reader version) (proof_at version) (λ bytes. refl) (λ n bytes. refl)

-- ---- locks

-- what follows a lock's first byte
abbrev pub lock_tail : Lock → List ℕ
lock_tail l =
    to_be_bytes w32 l.height ++ to_be_bytes w32 l.phase ++ (l.signer ∷ []) ++ value_bytes l.value
    ++ (length l.proof ∷ []) ++ flat_map signed_bytes l.proof

lock_regroup : (h p v f rest : List ℕ) (s n : ℕ)
    → (h ++ p ++ s ∷ []) ++ (v ++ (n ∷ (f ++ rest))) ≡ (h ++ p ++ (s ∷ []) ++ v ++ (n ∷ []) ++ f) ++ rest
lock_regroup h p v f rest s n = simp append_assoc

pub lock_takes : (version : Version) (bytes : List ℕ) (l : Lock) (rest : List ℕ) → IsBytes bytes → lock_at version bytes ≡ Some (l, rest)
    → (bytes ≡ lock_tail l ++ rest) × ((l.version ≡ version) × IsLock l) × IsBytes rest
lock_takes version bytes l rest fits e =
    let s = lock_steps version bytes l rest e in
    let ends = and_parts (leb 3 s.count) (leb s.count 12) s.within in
    let least : 3 ≤ s.count = leb-true 3 s.count ends.0 in
    let most : s.count ≤ 12 = leb-true s.count 12 ends.1 in
    let a = place_reader.takes bytes (header_of l.height l.phase l.signer) s.after_place fits s.place_is in
    let b = (value_reader l.version).takes s.after_place l.value s.after_value a.2 s.value_is in
    let c = byte_takes s.after_value s.count s.after_count b.2 s.count_is in
    let d = proof_takes l.version s.count s.after_count l.proof rest c.2 s.proof_is in
    let len : s.count ≡ length l.proof = sym d.3 in
    let spelled : s.after_value ≡ length l.proof ∷ (flat_map signed_bytes l.proof ++ rest) =
    c.0 ∙ ap (λ (t : List ℕ). s.count ∷ t) d.0 ∙ ap (λ (k : ℕ). k ∷ (flat_map signed_bytes l.proof ++ rest)) len in
    let parts : bytes ≡ lock_tail l ++ rest =
    a.0 ∙ ap (λ (t : List ℕ). place_bytes (header_of l.height l.phase l.signer) ++ t)
    (b.0 ∙ ap (λ (t : List ℕ). value_bytes l.value ++ t) spelled)
    ∙ lock_regroup (to_be_bytes w32 l.height) (to_be_bytes w32 l.phase) (value_bytes l.value) (flat_map signed_bytes l.proof)
    rest l.signer (length l.proof) in
    let count : (3 ≤ length l.proof) × (length l.proof ≤ 12) =
    (subst (λ (k : ℕ). 3 ≤ k) len least, subst (λ (k : ℕ). k ≤ 12) len most) in
    (parts, (s.version_is, record { place = a.1; value = b.1; count = count; each = d.1; signers = s.ascend }), d.2)

pub lock_again : (l : Lock) (rest : List ℕ) → IsLock l → lock_at l.version (lock_tail l ++ rest) ≡ Some (l, rest)
unfolding lock_at
lock_again l rest is =
    let version = l.version in
    let place = header_of l.height l.phase l.signer in
    let after_count = flat_map signed_bytes l.proof ++ rest in
    let after_value = length l.proof ∷ after_count in
    let after_place = value_bytes l.value ++ after_value in
    let test : (leb 3 (length l.proof) && leb (length l.proof) 12) ≡ true =
    and_from (leb 3 (length l.proof)) (leb (length l.proof) 12) (le-leb _ _ is.count.0) (le-leb _ _ is.count.1) in
    ap (lock_at version) (sym (lock_regroup (to_be_bytes w32 l.height) (to_be_bytes w32 l.phase) (value_bytes l.value)
    (flat_map signed_bytes l.proof) rest l.signer (length l.proof)))
    ∙ rw (
      place_reader.again place after_place is.place,
      (value_reader version).again l.value after_value is.value,
      test,
      proof_again version l.proof rest
          is.each,
      is.signers,
    ) refl

-- ---- acknowledgements

-- what follows an acknowledgement's first byte
abbrev pub ack_tail : Ack → List ℕ
ack_tail a = to_be_bytes w32 a.height ++ to_be_bytes w32 a.phase ++ (a.signer ∷ []) ++ value_bytes a.value

ack_regroup : (h p v rest : List ℕ) (s : ℕ) → (h ++ p ++ s ∷ []) ++ (v ++ rest) ≡ (h ++ p ++ (s ∷ []) ++ v) ++ rest
ack_regroup h p v rest s = simp append_assoc

pub ack_takes : (version : Version) (bytes : List ℕ) (a : Ack) (rest : List ℕ) → IsBytes bytes → ack_at version bytes ≡ Some (a, rest)
    → (bytes ≡ ack_tail a ++ rest) × ((a.version ≡ version) × IsAck a) × IsBytes rest
ack_takes version bytes a rest fits e =
    let s = ack_steps version bytes a rest e in
    let place = place_reader.takes bytes (header_of a.height a.phase a.signer) s.after_place fits s.place_is in
    let value = (value_reader a.version).takes s.after_place a.value rest place.2 s.value_is in
    let parts : bytes ≡ ack_tail a ++ rest =
    place.0 ∙ ap (λ (t : List ℕ). place_bytes (header_of a.height a.phase a.signer) ++ t) value.0
    ∙ ack_regroup (to_be_bytes w32 a.height) (to_be_bytes w32 a.phase) (value_bytes a.value) rest a.signer in
    (parts, (s.version_is, record { place = place.1; value = value.1 }), value.2)

pub ack_again : (a : Ack) (rest : List ℕ) → IsAck a → ack_at a.version (ack_tail a ++ rest) ≡ Some (a, rest)
unfolding ack_at
ack_again a rest is =
    let version = a.version in
    let place = header_of a.height a.phase a.signer in
    ap (ack_at version) (sym (ack_regroup (to_be_bytes w32 a.height) (to_be_bytes w32 a.phase) (value_bytes a.value) rest a.signer))
    ∙ rw (place_reader.again place (value_bytes a.value ++ rest) is.place, (value_reader version).again a.value rest is.value) refl

-- ---- statements

-- the bytes are the encoding of this statement, which can be encoded, and the rest
abbrev IsTaken : List ℕ → Statement → List ℕ → Type 0
IsTaken bytes s rest = (bytes ≡ statement_bytes s ++ rest) × IsStatement s × IsBytes rest

-- a reader takes a statement of this kind, since `read` takes what follows the first byte
kind_takes : {X : Type 0} (kind : ℕ) (read : Version → List ℕ → Option (X × List ℕ)) (make : X → Statement) (own : X → Version)
    (tail : X → List ℕ) (Is : X → Type 0) (bytes : List ℕ) (s : Statement) (rest : List ℕ)
    → ((x : X) → statement_bytes (make x) ≡ first_byte (own x) kind ∷ tail x) → ((x : X) → Is x → IsStatement (make x))
    → ((version : Version) (more : List ℕ) (x : X) → IsBytes more → read version more ≡ Some (x, rest)
    → (more ≡ tail x ++ rest) × ((own x ≡ version) × Is x) × IsBytes rest)
    → IsBytes bytes → KindSteps kind read make bytes s rest → IsTaken bytes s rest
kind_takes {X} kind read make own tail Is bytes s rest spelled is_statement takes fits k =
    let first = byte_takes bytes (first_byte k.version kind) k.after_first fits k.first_is in
    let t = takes k.version k.after_first k.content first.2 k.content_is in
    let parts : bytes ≡ statement_bytes (make k.content) ++ rest =
    first.0 ∙ ap (λ (v : Version). first_byte v kind ∷ k.after_first) (sym t.1.0)
    ∙ ap (λ (x : List ℕ). first_byte (own k.content) kind ∷ x) t.0 ∙ ap (λ (x : List ℕ). x ++ rest) (sym (spelled k.content)) in
    subst (λ (q : Statement). IsTaken bytes q rest) k.statement_is (parts, is_statement k.content t.1.1, t.2)

pub statement_takes : (bytes : List ℕ) (s : Statement) (rest : List ℕ) → IsBytes bytes → statement_at bytes ≡ Some (s, rest)
    → (bytes ≡ statement_bytes s ++ rest) × IsStatement s × IsBytes rest
unfolding statement_bytes
statement_takes bytes s rest fits e =
    statement_then bytes s rest
    (λ k. kind_takes 1 report_at (λ r. statement.Report r) (λ r. r.version) report_tail IsReport bytes s rest (λ r. refl) (λ r is. is)
    (λ version more r. report_takes version more r rest) fits k)
    (λ k. kind_takes 2 lock_at (λ l. statement.Lock l) (λ l. l.version) lock_tail IsLock bytes s rest (λ l. refl) (λ l is. is)
    (λ version more l. lock_takes version more l rest) fits k)
    (λ k. kind_takes 3 ack_at (λ a. statement.Ack a) (λ a. a.version) ack_tail IsAck bytes s rest (λ a. refl) (λ a is. is)
    (λ version more a. ack_takes version more a rest) fits k) e

-- a first byte is followed by what it announces
report_first : (version : Version) (bytes : List ℕ) → statement_at (first_byte version 1 ∷ bytes) ≡ as_report version bytes
unfolding statement_at
report_first One bytes = refl
report_first Two bytes = refl

lock_first : (version : Version) (bytes : List ℕ) → statement_at (first_byte version 2 ∷ bytes) ≡ as_lock version bytes
unfolding statement_at
lock_first One bytes = refl
lock_first Two bytes = refl

ack_first : (version : Version) (bytes : List ℕ) → statement_at (first_byte version 3 ∷ bytes) ≡ as_ack version bytes
unfolding statement_at
ack_first One bytes = refl
ack_first Two bytes = refl

pub statement_again : (s : Statement) (rest : List ℕ) → IsStatement s → statement_at (statement_bytes s ++ rest) ≡ Some (s, rest)
unfolding statement_bytes
statement_again (statement.Report r) rest is = report_first r.version (report_tail r ++ rest) ∙ rw (report_again r rest is) refl
statement_again (statement.Lock l) rest is = lock_first l.version (lock_tail l ++ rest) ∙ rw (lock_again l rest is) refl
statement_again (statement.Ack a) rest is = ack_first a.version (ack_tail a ++ rest) ∙ rw (ack_again a rest is) refl

pub statement_reader : IsReader statement_bytes IsStatement statement_at
statement_reader = record { takes = statement_takes; again = statement_again }
