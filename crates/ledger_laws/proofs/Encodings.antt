-- Statements that were read are equal if their encodings are, and their heights and phases fit four bytes. The law
-- `OneStatement` presumes statements of bytes; here the frames that they were read from may contain any numbers.
use Rattle.std.proofs.Common.{◌≡◌, ℕ, zero, suc, ◌^◌, ◌<◌, ◌≤◌, Bool, true, false, cond, List, [], ◌∷◌, ◌++◌, length, take, drop}
use Rattle.std.proofs.Common.{Some, refl, sym, ap, subst, ◌∙◌, append_assoc, arith, leb, eqb}
use Rattle.std.specs.List.{flat_map, AllByRecursion}
use Rattle.std.specs.Int.{w16, w32, to_be_bytes}
use Rattle.std.proofs.lemmas.Bool.{leb-true}
use Rattle.std.proofs.lemmas.List.{length-take}
use Rattle.ledger_model.specs.declared.statement.Report.{Report}
use Rattle.ledger_model.specs.declared.statement.Lock.{Lock}
use Rattle.ledger_model.specs.declared.statement.Ack.{Ack}
use Rattle.ledger_model.specs.declared.statement.SignedReport.{SignedReport}
use Rattle.ledger_model.specs.declared.statement.SignedStatement.{SignedStatement}
use Rattle.ledger_model.specs.declared.statement.Statement.{Statement}
use Rattle.ledger_model.specs.declared.statement.Statement.TheVariants as statement
use Rattle.ledger_model.specs.Values.{value_bytes}
use Rattle.ledger_model.specs.Order.{tx_bytes}
use Rattle.ledger_model.specs.Spelling.{list_bytes, report_bytes, signature_bytes, signed_bytes, lock_bytes, ack_bytes, statement_bytes}
use Rattle.ledger_model.specs.Reading.{◌>>=◌, guarded, bytes_at, number_at, signature_at}
use Rattle.ledger_model.specs.Reading.{signed_at, proof_at, lock_at, statement_at, body_reading}
use Rattle.ledger_model.specs.Reading.{reading, reading_in}
use Rattle.ledger_model.specs.Limits.{max_signature_len}
use Rattle.ledger_model.specs.Versions.{first_byte}
use Rattle.ledger_model.specs.declared.version.Version.{Version}
use Rattle.ledger_model.specs.declared.version.Version.TheVariants.{One, Two}
use Rattle.ledger_model.proofs.FrameReading.{body_parts}
use Rattle.ledger_model.proofs.ReadingSteps.{signed_steps, lock_steps, statement_then}
use Rattle.ledger_model.proofs.Readers.{bind_some, only_if-some, guarded-some, some_is, read_once, wide16, wide32, number_reader}

-- ---- encodings of which none is a proper prefix of another

-- if the same numbers start with two of these encodings, the encoded things are equal, and so are the rests
abbrev Once : {X : Type 0} → (X → List ℕ) → (X → Type 0) → Type 0
Once {X} spell Is = (x y : X) (rest more : List ℕ) → Is x → Is y → spell x ++ rest ≡ spell y ++ more → (x ≡ y) × (rest ≡ more)

-- no condition
abbrev Any : {X : Type 0} → X → Type 0
Any x = Unit {0}

every : {X : Type 0} (xs : List X) → AllByRecursion (λ x. Any x) xs
every [] = tt
every (x ∷ xs) = (tt, every xs)

many_once : {X : Type 0} (spell : X → List ℕ) (Is : X → Type 0) → Once spell Is → (xs ys : List X) (rest more : List ℕ)
    → length xs ≡ length ys → AllByRecursion Is xs → AllByRecursion Is ys → flat_map spell xs ++ rest ≡ flat_map spell ys ++ more
    → (xs ≡ ys) × (rest ≡ more)
many_once spell Is once [] [] rest more len each_x each_y e = (refl, e)
many_once spell Is once [] (y ∷ ys) rest more len each_x each_y e = absurd (omega arith)
many_once spell Is once (x ∷ xs) [] rest more len each_x each_y e = absurd (omega arith)
many_once spell Is once (x ∷ xs) (y ∷ ys) rest more len each_x each_y e =
    let parts : spell x ++ (flat_map spell xs ++ rest) ≡ spell y ++ (flat_map spell ys ++ more) =
    sym (append_assoc (spell x) (flat_map spell xs) rest) ∙ e ∙ append_assoc (spell y) (flat_map spell ys) more in
    let first = once x y (flat_map spell xs ++ rest) (flat_map spell ys ++ more) each_x.0 each_y.0 parts in
    let others = many_once spell Is once xs ys rest more (omega arith) each_x.1 each_y.1 first.1 in
    (λ i. first.0 i ∷ others.0 i, others.1)

text_once : (xs ys rest more : List ℕ) → length xs ≡ length ys → xs ++ rest ≡ ys ++ more → (xs ≡ ys) × (rest ≡ more)
text_once [] [] rest more len e = (refl, e)
text_once [] (y ∷ ys) rest more len e = absurd (omega arith)
text_once (x ∷ xs) [] rest more len e = absurd (omega arith)
text_once (x ∷ xs) (y ∷ ys) rest more len e =
    let head : x ≡ y = cc in
    let tail : xs ++ rest ≡ ys ++ more = cc in
    let others = text_once xs ys rest more (omega arith) tail in
    (λ i. head i ∷ others.0 i, others.1)

number_once : Once (to_be_bytes w32) (λ n. n < 2 ^ 32)
number_once = read_once (to_be_bytes w32) (λ n. n < 2 ^ 32) (number_at w32) (number_reader w32 (2 ^ 32) wide32).again

length_once : Once (to_be_bytes w16) (λ n. n < 2 ^ 16)
length_once = read_once (to_be_bytes w16) (λ n. n < 2 ^ 16) (number_at w16) (number_reader w16 (2 ^ 16) wide16).again

-- ---- values, lists of values and signatures

tx_once : Once tx_bytes (λ tx. Any tx)
tx_once t u rest more is also e =
    let len : length t ≡ length u = cc in
    let tail : t ++ rest ≡ u ++ more = cc in
    text_once t u rest more len tail

value_once : Once value_bytes (λ v. Any v)
value_once v w rest more is also e =
    let len : length v ≡ length w = cc in
    let tail : flat_map tx_bytes v ++ rest ≡ flat_map tx_bytes w ++ more = cc in
    many_once tx_bytes (λ tx. Any tx) tx_once v w rest more len (every v) (every w) tail

list_once : Once list_bytes (λ vs. Any vs)
list_once vs ws rest more is also e =
    let len : length vs ≡ length ws = cc in
    let tail : flat_map value_bytes vs ++ rest ≡ flat_map value_bytes ws ++ more = cc in
    many_once value_bytes (λ v. Any v) value_once vs ws rest more len (every vs) (every ws) tail

-- the longest signature's length fits two bytes
abbrev pub IsShort : List ℕ → Type 0
IsShort signature = length signature ≤ max_signature_len

signature_once : Once signature_bytes IsShort
signature_once s t rest more is also e =
    let parts : to_be_bytes w16 (length s) ++ (s ++ rest) ≡ to_be_bytes w16 (length t) ++ (t ++ more) =
    sym (append_assoc (to_be_bytes w16 (length s)) s rest) ∙ e ∙ append_assoc (to_be_bytes w16 (length t)) t more in
    let len = length_once (length s) (length t) (s ++ rest) (t ++ more) (omega (arith, is)) (omega (arith, also)) parts in
    text_once s t rest more len.0 len.1

-- equal lists have equal heads and equal tails
heads : (x y : ℕ) (xs ys : List ℕ) → x ∷ xs ≡ y ∷ ys → (x ≡ y) × (xs ≡ ys)
heads x y xs ys e = (cc, cc)

flag_once : (b d : Bool) (rest more : List ℕ) → cond b 1 0 ∷ rest ≡ cond d 1 0 ∷ more → (b ≡ d) × (rest ≡ more)
flag_once true true rest more e = (refl, cc)
flag_once true false rest more e = absurd cc
flag_once false true rest more e = absurd cc
flag_once false false rest more e = (refl, cc)

-- ---- reports

-- a height and a phase that fit four bytes
abbrev pub FitsPlace : ℕ → ℕ → Type 0
FitsPlace height phase = (height < 2 ^ 32) × (phase < 2 ^ 32)

abbrev pub FitsReport : Report → Type 0
FitsReport r = FitsPlace r.height r.phase

-- a first byte encodes the version and the kind
versions_once : (v w : Version) (kind : ℕ) → first_byte v kind ≡ first_byte w kind → v ≡ w
versions_once One One kind e = refl
versions_once One Two kind e = absurd (omega (arith, e))
versions_once Two One kind e = absurd (omega (arith, e))
versions_once Two Two kind e = refl

kinds_once : (v w : Version) (k l : ℕ) → k < 16 → l < 16 → first_byte v k ≡ first_byte w l → k ≡ l
kinds_once One One k l small also e = e
kinds_once One Two k l small also e = absurd (omega (arith, e))
kinds_once Two One k l small also e = absurd (omega (arith, e))
kinds_once Two Two k l small also e = omega (arith, e)

report_parts : (h p v l m rest : List ℕ) (b s f : ℕ)
    → (b ∷ h ++ p ++ (s ∷ f ∷ []) ++ v ++ l ++ m) ++ rest ≡ b ∷ (h ++ (p ++ (s ∷ (f ∷ (v ++ (l ++ (m ++ rest)))))))
report_parts h p v l m rest b s f = simp append_assoc

report_once : Once report_bytes FitsReport
report_once r q rest more is also e =
    let parts_r = report_parts (to_be_bytes w32 r.height) (to_be_bytes w32 r.phase) (value_bytes r.initial) (list_bytes r.proper)
    (list_bytes r.locked) rest (first_byte r.version 1) r.signer (cond r.all 1 0) in
    let parts_q = report_parts (to_be_bytes w32 q.height) (to_be_bytes w32 q.phase) (value_bytes q.initial) (list_bytes q.proper)
    (list_bytes q.locked) more (first_byte q.version 1) q.signer (cond q.all 1 0) in
    let tail = heads (first_byte r.version 1) (first_byte q.version 1) _ _ (sym parts_r ∙ e ∙ parts_q) in
    let version = versions_once r.version q.version 1 tail.0 in
    let height = number_once r.height q.height _ _ is.0 also.0 tail.1 in
    let phase = number_once r.phase q.phase _ _ is.1 also.1 height.1 in
    let signer = heads r.signer q.signer _ _ phase.1 in
    let all = flag_once r.all q.all _ _ signer.1 in
    let initial = value_once r.initial q.initial _ _ tt tt all.1 in
    let proper = list_once r.proper q.proper _ _ tt tt initial.1 in
    let locked = list_once r.locked q.locked rest more tt tt proper.1 in (
      λ i. record {
        version = version i;
        height = height.0 i;
        phase = phase.0 i;
        signer = signer.0 i;
        all = all.0 i;
        initial = initial.0 i;
        proper = proper.0 i;
        locked = locked.0 i;
      },
      locked.1,
    )

-- ---- signed reports, locks and acknowledgements

pub record FitsSigned (s : SignedReport) : Type 0 where
  pub report : FitsReport s.report
  pub signature : IsShort s.signature

signed_once : Once signed_bytes FitsSigned
signed_once s t rest more is also e =
    let parts : report_bytes s.report ++ (signature_bytes s.signature ++ rest) ≡ report_bytes t.report
    ++ (signature_bytes t.signature ++ more) =
    sym (append_assoc (report_bytes s.report) (signature_bytes s.signature) rest) ∙ e
    ∙ append_assoc (report_bytes t.report) (signature_bytes t.signature) more in
    let report = report_once s.report t.report _ _ is.report also.report parts in
    let signature = signature_once s.signature t.signature rest more is.signature also.signature report.1 in
    (λ i. record { report = report.0 i; signature = signature.0 i }, signature.1)

pub record FitsLock (l : Lock) : Type 0 where
  pub place : FitsPlace l.height l.phase
  pub proof : AllByRecursion FitsSigned l.proof

lock_parts : (h p v f rest : List ℕ) (b s n : ℕ)
    → (b ∷ h ++ p ++ (s ∷ []) ++ v ++ (n ∷ []) ++ f) ++ rest ≡ b ∷ (h ++ (p ++ (s ∷ (v ++ (n ∷ (f ++ rest))))))
lock_parts h p v f rest b s n = simp append_assoc

ack_parts : (h p v rest : List ℕ) (b s : ℕ) → (b ∷ h ++ p ++ (s ∷ []) ++ v) ++ rest ≡ b ∷ (h ++ (p ++ (s ∷ (v ++ rest))))
ack_parts h p v rest b s = simp append_assoc

lock_once : Once lock_bytes FitsLock
lock_once l m rest more is also e =
    let parts_l = lock_parts (to_be_bytes w32 l.height) (to_be_bytes w32 l.phase) (value_bytes l.value) (flat_map signed_bytes l.proof)
    rest (first_byte l.version 2) l.signer (length l.proof) in
    let parts_m = lock_parts (to_be_bytes w32 m.height) (to_be_bytes w32 m.phase) (value_bytes m.value) (flat_map signed_bytes m.proof)
    more (first_byte m.version 2) m.signer (length m.proof) in
    let tail = heads (first_byte l.version 2) (first_byte m.version 2) _ _ (sym parts_l ∙ e ∙ parts_m) in
    let version = versions_once l.version m.version 2 tail.0 in
    let height = number_once l.height m.height _ _ is.place.0 also.place.0 tail.1 in
    let phase = number_once l.phase m.phase _ _ is.place.1 also.place.1 height.1 in
    let signer = heads l.signer m.signer _ _ phase.1 in
    let value = value_once l.value m.value _ _ tt tt signer.1 in
    let count = heads (length l.proof) (length m.proof) _ _ value.1 in
    let proof = many_once signed_bytes FitsSigned signed_once l.proof m.proof rest more count.0 is.proof also.proof count.1 in (
      λ i. record {
        version = version i;
        height = height.0 i;
        phase = phase.0 i;
        signer = signer.0 i;
        value = value.0 i;
        proof = proof.0 i;
      },
      proof.1,
    )

abbrev pub FitsAck : Ack → Type 0
FitsAck a = FitsPlace a.height a.phase

ack_once : Once ack_bytes FitsAck
ack_once a b rest more is also e =
    let parts_a = ack_parts (to_be_bytes w32 a.height) (to_be_bytes w32 a.phase) (value_bytes a.value) rest (first_byte a.version 3)
    a.signer in
    let parts_b = ack_parts (to_be_bytes w32 b.height) (to_be_bytes w32 b.phase) (value_bytes b.value) more (first_byte b.version 3)
    b.signer in
    let tail = heads (first_byte a.version 3) (first_byte b.version 3) _ _ (sym parts_a ∙ e ∙ parts_b) in
    let version = versions_once a.version b.version 3 tail.0 in
    let height = number_once a.height b.height _ _ is.0 also.0 tail.1 in
    let phase = number_once a.phase b.phase _ _ is.1 also.1 height.1 in
    let signer = heads a.signer b.signer _ _ phase.1 in
    let value = value_once a.value b.value rest more tt tt signer.1 in
    (λ i. record { version = version i; height = height.0 i; phase = phase.0 i; signer = signer.0 i; value = value.0 i }, value.1)

-- ---- statements

-- the heights, the phases and the lengths of signatures in the statement fit their widths
abbrev pub FitsWidths : Statement → Type 0
FitsWidths (statement.Report r) = FitsReport r
FitsWidths (statement.Lock l) = FitsLock l
FitsWidths (statement.Ack a) = FitsAck a

-- an encoding determines the statement
pub fitting_once : (s t : Statement) → FitsWidths s → FitsWidths t → statement_bytes s ≡ statement_bytes t → s ≡ t
unfolding statement_bytes
fitting_once (statement.Report r) (statement.Report q) is also e =
    ap statement.Report (report_once r q [] [] is also (ap (λ (b : List ℕ). b ++ []) e)).0
fitting_once (statement.Lock l) (statement.Lock m) is also e =
    ap statement.Lock (lock_once l m [] [] is also (ap (λ (b : List ℕ). b ++ []) e)).0
fitting_once (statement.Ack a) (statement.Ack b) is also e =
    ap statement.Ack (ack_once a b [] [] is also (ap (λ (x : List ℕ). x ++ []) e)).0
fitting_once (statement.Report r) (statement.Lock m) is also e =
    absurd (omega (arith, kinds_once r.version m.version 1 2 (omega arith) (omega arith) (heads _ _ _ _ e).0))
fitting_once (statement.Report r) (statement.Ack b) is also e =
    absurd (omega (arith, kinds_once r.version b.version 1 3 (omega arith) (omega arith) (heads _ _ _ _ e).0))
fitting_once (statement.Lock l) (statement.Report q) is also e =
    absurd (omega (arith, kinds_once l.version q.version 2 1 (omega arith) (omega arith) (heads _ _ _ _ e).0))
fitting_once (statement.Lock l) (statement.Ack b) is also e =
    absurd (omega (arith, kinds_once l.version b.version 2 3 (omega arith) (omega arith) (heads _ _ _ _ e).0))
fitting_once (statement.Ack a) (statement.Report q) is also e =
    absurd (omega (arith, kinds_once a.version q.version 3 1 (omega arith) (omega arith) (heads _ _ _ _ e).0))
fitting_once (statement.Ack a) (statement.Lock m) is also e =
    absurd (omega (arith, kinds_once a.version m.version 3 2 (omega arith) (omega arith) (heads _ _ _ _ e).0))

-- ---- the signatures of what was read

-- the signatures in the statement's proof are short
abbrev pub HasShortProof : Statement → Type 0
HasShortProof (statement.Report r) = Unit {0}
HasShortProof (statement.Lock l) = AllByRecursion (λ (s : SignedReport). IsShort s.signature) l.proof
HasShortProof (statement.Ack a) = Unit {0}

short_signature : (bytes signature rest : List ℕ) → signature_at bytes ≡ Some (signature, rest) → IsShort signature
unfolding signature_at
short_signature bytes signature rest e =
    let a = bind_some (number_at w16 bytes) (λ len. guarded (leb len.0 max_signature_len) (bytes_at len.0 len.1)) (signature, rest) e in
    let g = guarded-some (leb a.0.0 max_signature_len) (bytes_at a.0.0 a.0.1) (signature, rest) a.2 in
    let short : a.0.0 ≤ max_signature_len = leb-true a.0.0 max_signature_len g.0 in
    let b = only_if-some (leb a.0.0 (length a.0.1)) (take a.0.0 a.0.1, drop a.0.0 a.0.1) (signature, rest) g.1 in
    let text : take a.0.0 a.0.1 ≡ signature = ap (λ (p : List ℕ × List ℕ). p.0) b.1 in
    omega (arith, short, ap length text, length-take a.0.0 a.0.1)

short_signed : (version : Version) (bytes : List ℕ) (s : SignedReport) (rest : List ℕ) → signed_at version bytes ≡ Some (s, rest)
    → IsShort s.signature
short_signed version bytes s rest e =
    let t = signed_steps version bytes s rest e in
    short_signature t.after_report s.signature rest t.signature_is

short_proof : (version : Version) (n : ℕ) (bytes : List ℕ) (proof : List SignedReport) (rest : List ℕ)
    → proof_at version n bytes ≡ Some (proof, rest)
    → AllByRecursion (λ (s : SignedReport). IsShort s.signature) proof
unfolding proof_at
short_proof version zero bytes proof rest e =
    subst (λ (p : List SignedReport × List ℕ). AllByRecursion (λ (s : SignedReport). IsShort s.signature) p.0)
    (some_is ([], bytes) (proof, rest) e) tt
short_proof version (suc n) bytes proof rest e =
    let a = bind_some (signed_at version bytes) (λ first. proof_at version n first.1 >>= λ others. Some (first.0 ∷ others.0, others.1))
    (proof, rest) e in
    let b = bind_some (proof_at version n a.0.1) (λ others. Some (a.0.0 ∷ others.0, others.1)) (proof, rest) a.2 in
    let made : List SignedReport × List ℕ = (a.0.0 ∷ b.0.0, b.0.1) in
    subst (λ (p : List SignedReport × List ℕ). AllByRecursion (λ (s : SignedReport). IsShort s.signature) p.0)
    (some_is made (proof, rest) b.2) (short_signed version bytes a.0.0 a.0.1 a.1, short_proof version n a.0.1 b.0.0 b.0.1 b.1)

short_lock : (version : Version) (bytes : List ℕ) (l : Lock) (rest : List ℕ) → lock_at version bytes ≡ Some (l, rest)
    → HasShortProof (statement.Lock l)
short_lock version bytes l rest e =
    let s = lock_steps version bytes l rest e in
    short_proof l.version s.count s.after_count l.proof rest s.proof_is

short_statement : (bytes : List ℕ) (s : Statement) (rest : List ℕ) → statement_at bytes ≡ Some (s, rest) → HasShortProof s
short_statement bytes s rest e =
    statement_then bytes s rest (λ k. subst HasShortProof k.statement_is tt)
    (λ k. subst HasShortProof k.statement_is (short_lock k.version k.after_first k.content rest k.content_is))
    (λ k. subst HasShortProof k.statement_is tt) e

-- whatever numbers a frame contains, the signatures that are read from it are short
pub read_short : (bytes : List ℕ) (s : SignedStatement) → reading bytes ≡ Some s → HasShortProof s.statement
unfolding reading_in
read_short bytes s e =
    let a = bind_some (number_at w32 bytes) (λ len. guarded (eqb (length len.1) len.0) (body_reading Two len.1)) s e in
    let g = guarded-some (eqb (length a.0.1) a.0.0) (body_reading Two a.0.1) s a.2 in
    let (left, is_statement, is_signature, ends, carried) = body_parts Two a.0.1 s g.1 in
    short_statement a.0.1 s.statement left.0 is_statement
