-- A head that was parsed is answered by what its method and its target ask.
use Rattle.std.proofs.Common.{◌≡◌, ℕ, ◌≤◌, List, length, sym, ap, subst, arith, inl, inr, rules}
use Rattle.std.specs.Prelude.{Result, Ok, Err, IsErrOf, IsTrue}
use Rattle.std.proofs.lemmas.List.{length-map, length-take-le}
use Rattle.httparse.specs.declared.spans.HeaderSpan.{HeaderSpan}
use Rattle.httparse.specs.Grammar.{Field, RequestHead, ReadsRequest}
use Rattle.httparse.specs.Spans.{AreFieldsAt}
use Rattle.http_messages.specs.declared.fault.RequestFault.{RequestFault}
use Rattle.http_messages.specs.declared.fault.RequestFault.TheVariants as fault
use Rattle.http_messages.specs.declared.request.Request.{Request}
use Rattle.http_messages.specs.Limits.{max_head_len, max_fields}
use Rattle.http_messages.specs.Faults.{IsExpected}
use Rattle.http_messages.specs.Questions.{RequestView, request_view}
use Rattle.http_messages.specs.Requests.{asked_by, needs_memory, AnswersHead}
use Rattle.http_messages.proofs.Asked.{IsAsked, asked_by-asked}

-- as many fields as headers were written
pub few_fields : (buf : List ℕ) (headers : List HeaderSpan) (count room : ℕ) (fields : List Field) → AreFieldsAt buf headers count fields
    → count ≤ length headers → length headers ≡ room → length fields ≤ room
few_fields buf headers count room fields are fits size =
    let same = ap length are in
    omega (arith, simp (length-map) at same, length-take-le count headers fits)

-- a fault that may be one of what is asked
asked_fault : (answer : Result RequestView RequestFault) (e : RequestFault) → IsAsked answer → (e ≡ fault.NoMemory → ⊥)
    → IsExpected {A = Request} request_view (Err e) answer → answer ≡ Err e
asked_fault answer e asked no_memory gives = elim gives [ inl is ↦ absurd (no_memory is) | inr is ↦ is ]

-- the head is answered by what it asks
pub answered : (bytes : List ℕ) (h : RequestHead) (rest : List ℕ) (r : Result Request RequestFault) → ReadsRequest bytes h rest
    → length bytes ≤ max_head_len → length h.fields ≤ max_fields → IsExpected request_view r (asked_by h.method h.target)
    → (IsErrOf r fault.NoMemory → IsTrue (needs_memory h.method h.target)) → AnswersHead bytes r
answered bytes h rest (Ok request) reads short few gives memory =
    record { head = h; rest = rest; reads = reads; short = short; few = few; asked = sym gives }
answered bytes h rest (Err fault.Malformed) reads short few gives memory =
    let asked = asked_by-asked h.method h.target in
    absurd (subst IsAsked (asked_fault (asked_by h.method h.target) fault.Malformed asked (λ e. absurd cc) gives) asked)
answered bytes h rest (Err fault.Incomplete) reads short few gives memory =
    let asked = asked_by-asked h.method h.target in
    absurd (subst IsAsked (asked_fault (asked_by h.method h.target) fault.Incomplete asked (λ e. absurd cc) gives) asked)
answered bytes h rest (Err (fault.Parameter p)) reads short few gives memory =
    record {
      head = h;
      rest = rest;
      reads = reads;
      short = short;
      few = few;
      asked = sym (asked_fault (asked_by h.method h.target) (fault.Parameter p) (asked_by-asked h.method h.target) (λ e. absurd cc) gives);
    }
answered bytes h rest (Err fault.NotFound) reads short few gives memory =
    record {
      head = h;
      rest = rest;
      reads = reads;
      short = short;
      few = few;
      asked = sym (asked_fault (asked_by h.method h.target) fault.NotFound (asked_by-asked h.method h.target) (λ e. absurd cc) gives);
    }
answered bytes h rest (Err fault.Method) reads short few gives memory =
    record {
      head = h;
      rest = rest;
      reads = reads;
      short = short;
      few = few;
      asked = sym (asked_fault (asked_by h.method h.target) fault.Method (asked_by-asked h.method h.target) (λ e. absurd cc) gives);
    }
answered bytes h rest (Err fault.TooLong) reads short few gives memory =
    let asked = asked_by-asked h.method h.target in
    absurd (subst IsAsked (asked_fault (asked_by h.method h.target) fault.TooLong asked (λ e. absurd cc) gives) asked)
answered bytes h rest (Err fault.NoMemory) reads short few gives memory =
    record { head = h; rest = rest; reads = reads; short = short; few = few; needs = memory (search rules) }
