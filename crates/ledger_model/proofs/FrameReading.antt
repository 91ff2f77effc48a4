-- Frames are read back from their encoding, and a stream of frames splits in one way.
use Rattle.std.proofs.Common.{◌≡◌, ℕ, ◌+◌, ◌^◌, ◌≤◌, true, ◌&&◌, IsTrue, inl, inr}
use Rattle.std.proofs.Common.{List, [], ◌∷◌, ◌++◌, length, take, drop, Option, Some}
use Rattle.std.proofs.Common.{refl, sym, ap, subst, ◌∙◌, append_assoc, arith, leb, eqb}
use Rattle.std.specs.List.{flat_map}
use Rattle.std.specs.Int.{w32, to_be_bytes, from_be_bytes}
use Rattle.std.proofs.lemmas.Bool.{and_parts, leb-true, le-leb, eqb-true, eq-eqb}
use Rattle.std.proofs.lemmas.List.{append-nil, nil_from_length, length-append, take_at, drop_at}
use Rattle.std.proofs.lemmas.Nat.{from_be_bytes-to_be_bytes_4}
use Rattle.std.proofs.lemmas.Option.{none-some}
use Rattle.ledger_model.specs.declared.statement.SignedStatement.{SignedStatement}
use Rattle.ledger_model.specs.declared.statement.Statement.{Statement}
use Rattle.ledger_model.specs.Spelling.{IsStatement, IsFrame, IsFrameIn, statement_bytes, signature_bytes, body_bytes, frame_bytes}
use Rattle.ledger_model.specs.Spelling.{Spells, SpellsFrame, Frames}
use Rattle.ledger_model.specs.Reading.{◌>>=◌, only_if, guarded, bytes_at, number_at}
use Rattle.ledger_model.specs.Reading.{signature_at, statement_at, reading, reading_in, statement_reading}
use Rattle.ledger_model.specs.Reading.{body_reading, is_carried}
use Rattle.ledger_model.specs.Streams.{announced, IsPartial, BeginsTooLong, BeginsMalformed}
use Rattle.ledger_model.specs.GrammarLaws.{IsBytes, FramesPart, StatementsPart, OneStatement, OneSplit, OneBreak, SplitOrBreak}
use Rattle.ledger_model.proofs.Readers.{bind_some, only_if-some, guarded-some, read_once, bytes_again, wide32, number_reader}
use Rattle.ledger_model.proofs.StatementReading.{signature_takes, signature_again, statement_takes, statement_again}
use Rattle.ledger_model.specs.Versions.{reads, body_limit}
use Rattle.ledger_model.proofs.VersionLaws.{reads_own}
use Rattle.ledger_model.specs.Notes.{version_of}
use Rattle.ledger_model.specs.declared.version.Version.{Version}
use Rattle.ledger_model.specs.declared.version.Version.TheVariants.{One, Two}

-- what is left where nothing is left over
none_left : (text rest : List ℕ) → eqb (length rest) 0 ≡ true → text ++ rest ≡ text
none_left text rest test = ap (λ (t : List ℕ). text ++ t) (nil_from_length rest (eqb-true _ _ test)) ∙ append-nil text

-- ---- statements alone

pub statement_reading-spells : (version : Version) (bytes : List ℕ) (s : Statement) → IsBytes bytes → statement_reading version bytes
    ≡ Some s
    → Spells version bytes s
unfolding statement_reading
statement_reading-spells version bytes s fits e =
    let a = bind_some (statement_at bytes) (λ t. only_if (eqb (length t.1) 0 && reads version (version_of t.0)) t.0) s e in
    let o = only_if-some (eqb (length a.0.1) 0 && reads version (version_of a.0.0)) a.0.0 s a.2 in
    let tests = and_parts (eqb (length a.0.1) 0) (reads version (version_of a.0.0)) o.0 in
    let t = statement_takes bytes a.0.0 a.0.1 fits a.1 in
    subst (Spells version bytes) o.1 (tests.1, t.1, t.0 ∙ none_left (statement_bytes a.0.0) a.0.1 tests.0)

pub statement_reading-again : (version : Version) (s : Statement) → IsStatement s → IsTrue (reads version (version_of s))
    → statement_reading version (statement_bytes s) ≡ Some s
unfolding statement_reading
statement_reading-again version s is carried =
    let read : statement_at (statement_bytes s) ≡ Some (s, []) =
    ap statement_at (sym (append-nil (statement_bytes s))) ∙ statement_again s [] is in
    rw (read, carried) refl

pub statements_part : StatementsPart
statements_part = read_once statement_bytes IsStatement statement_at statement_again

pub one_statement : OneStatement
one_statement s t is_s is_t e = (statements_part s t [] [] is_s is_t (ap (λ (b : List ℕ). b ++ []) e)).0

-- ---- bodies

-- what a body shows that is read
pub body_parts : (version : Version) (bytes : List ℕ) (s : SignedStatement) → body_reading version bytes ≡ Some s
    → (left : List ℕ × List ℕ)
    × (statement_at bytes ≡ Some (s.statement, left.0)) × (signature_at left.0 ≡ Some (s.signature, left.1))
    × (eqb (length left.1) 0 ≡ true) × (is_carried version (length bytes) s.statement ≡ true)
unfolding body_reading
body_parts version bytes s e =
    let a = bind_some (statement_at bytes) (λ t. signature_at t.1 >>= λ signature. only_if
    (eqb (length signature.1) 0 && is_carried version (length bytes) t.0) (record { statement = t.0; signature = signature.0 })) s e in
    let b = bind_some (signature_at a.0.1) (λ signature. only_if
    (eqb (length signature.1) 0 && is_carried version (length bytes) a.0.0) (record { statement = a.0.0; signature = signature.0 })) s
    a.2 in
    let made : SignedStatement = record { statement = a.0.0; signature = b.0.0 } in
    let o = only_if-some (eqb (length b.0.1) 0 && is_carried version (length bytes) a.0.0) made s b.2 in
    let tests = and_parts (eqb (length b.0.1) 0) (is_carried version (length bytes) a.0.0) o.0 in
    subst (λ (x : SignedStatement). (left : List ℕ × List ℕ)
    × (statement_at bytes ≡ Some (x.statement, left.0)) × (signature_at left.0 ≡ Some (x.signature, left.1))
    × (eqb (length left.1) 0 ≡ true) × (is_carried version (length bytes) x.statement ≡ true)) o.1
    ((a.0.1, b.0.1), a.1, b.1, tests.0, tests.1)

pub body_reading-spells : (version : Version) (bytes : List ℕ) (s : SignedStatement) → IsBytes bytes → body_reading version bytes ≡ Some s
    → IsFrameIn version s × (bytes ≡ body_bytes s)
unfolding body_bytes
body_reading-spells version bytes s fits e =
    let (left, is_statement, is_signature, ends, carried) = body_parts version bytes s e in
    let t = statement_takes bytes s.statement left.0 fits is_statement in
    let u = signature_takes left.0 s.signature left.1 t.2 is_signature in
    let parts : bytes ≡ body_bytes s =
    t.0 ∙ ap (λ (x : List ℕ). statement_bytes s.statement ++ x) (u.0 ∙ none_left (signature_bytes s.signature) left.1 ends) in
    let tests = and_parts (reads version (version_of s.statement)) (leb (length bytes) (body_limit (version_of s.statement))) carried in
    let short : length bytes ≤ body_limit (version_of s.statement) = leb-true _ _ tests.1 in (
      record {
        read = tests.0;
        statement = t.1;
        signature = u.1;
        short = subst (λ (x : List ℕ). length x ≤ body_limit (version_of s.statement)) parts short;
      },
      parts,
    )

-- a body that is read in frames of one version is read in those of another that carry it
pub body_reading-shared : (version other : Version) (bytes : List ℕ) (s : SignedStatement) → body_reading version bytes ≡ Some s
    → reads other (version_of s.statement) ≡ true → body_reading other bytes ≡ Some s
unfolding body_reading
body_reading-shared version other bytes s e carried =
    let (left, is_statement, is_signature, ends, within) = body_parts version bytes s e in
    let tests = and_parts (reads version (version_of s.statement)) (leb (length bytes) (body_limit (version_of s.statement))) within in
    rw (is_statement, is_signature, ends, carried, tests.1) refl

-- a body that is read is carried
pub body_reading-reads : (version : Version) (bytes : List ℕ) (s : SignedStatement) → body_reading version bytes ≡ Some s
    → reads version (version_of s.statement) ≡ true
body_reading-reads version bytes s e =
    let (left, is_statement, is_signature, ends, within) = body_parts version bytes s e in
    (and_parts (reads version (version_of s.statement)) (leb (length bytes) (body_limit (version_of s.statement))) within).0

pub body_reading-again : (version : Version) (s : SignedStatement) → IsFrameIn version s → body_reading version (body_bytes s) ≡ Some s
unfolding body_reading body_bytes
body_reading-again version s is =
    let signature : signature_at (signature_bytes s.signature) ≡ Some (s.signature, []) =
    ap signature_at (sym (append-nil (signature_bytes s.signature))) ∙ signature_again s.signature [] is.signature in
    let short : leb (length (body_bytes s)) (body_limit (version_of s.statement)) ≡ true = le-leb _ _ is.short in
    rw (statement_again s.statement (signature_bytes s.signature) is.statement, signature, is.read, short) refl

-- ---- frames

pub reading-spells : (version : Version) (bytes : List ℕ) (s : SignedStatement) → IsBytes bytes → reading_in version bytes ≡ Some s
    → SpellsFrame version bytes s
unfolding reading_in frame_bytes
reading-spells version bytes s fits e =
    let a = bind_some (number_at w32 bytes) (λ len. guarded (eqb (length len.1) len.0) (body_reading version len.1)) s e in
    let g = guarded-some (eqb (length a.0.1) a.0.0) (body_reading version a.0.1) s a.2 in
    let whole : length a.0.1 ≡ a.0.0 = eqb-true _ _ g.0 in
    let first = (number_reader w32 (2 ^ 32) wide32).takes bytes a.0.0 a.0.1 fits a.1 in
    let body = body_reading-spells version a.0.1 s first.2 g.1 in
    let len : length (body_bytes s) ≡ a.0.0 = ap length (sym body.1) ∙ whole in
    let parts : bytes ≡ to_be_bytes w32 (length (body_bytes s)) ++ body_bytes s =
    first.0 ∙ ap (λ (t : List ℕ). to_be_bytes w32 a.0.0 ++ t) body.1 ∙ ap (λ (k : ℕ). to_be_bytes w32 k ++ body_bytes s) (sym len) in
    (body.0, parts)

-- the body of a frame, of whatever version, has at most 600,000 bytes
pub body_short : (version : Version) (s : SignedStatement) → IsFrameIn version s → length (body_bytes s) ≤ 600000
body_short version s is = of_version (version_of s.statement) (length (body_bytes s)) is.short
  where
    of_version : (own : Version) (n : ℕ) → n ≤ body_limit own → n ≤ 600000
    of_version One n few = omega arith
    of_version Two n few = few

pub reading-again : (version : Version) (s : SignedStatement) → IsFrameIn version s → reading_in version (frame_bytes s) ≡ Some s
unfolding reading_in frame_bytes
reading-again version s is =
    let short = body_short version s is in
    let test : eqb (length (body_bytes s)) (length (body_bytes s)) ≡ true = eq-eqb _ _ refl in
    rw ((number_reader w32 (2 ^ 32) wide32).again (length (body_bytes s)) (body_bytes s) (omega arith), test)
    (body_reading-again version s is)

-- what frames of one version carry, those of version 2 carry
pub reading-reads : (version : Version) (bytes : List ℕ) (s : SignedStatement) → reading_in version bytes ≡ Some s
    → (reading bytes ≡ Some s) × (reads version (version_of s.statement) ≡ true)
unfolding reading_in
reading-reads version bytes s e =
    let a = bind_some (number_at w32 bytes) (λ len. guarded (eqb (length len.1) len.0) (body_reading version len.1)) s e in
    let g = guarded-some (eqb (length a.0.1) a.0.0) (body_reading version a.0.1) s a.2 in
    (rw (a.1, g.0) (body_reading-shared version Two a.0.1 s g.1 refl), body_reading-reads version a.0.1 s g.1)

-- and a frame that carries this version's statement is read in it
pub reading-within : (version : Version) (bytes : List ℕ) (s : SignedStatement) → reading bytes ≡ Some s
    → reads version (version_of s.statement) ≡ true → reading_in version bytes ≡ Some s
unfolding reading_in
reading-within version bytes s e carried =
    let a = bind_some (number_at w32 bytes) (λ len. guarded (eqb (length len.1) len.0) (body_reading Two len.1)) s e in
    let g = guarded-some (eqb (length a.0.1) a.0.0) (body_reading Two a.0.1) s a.2 in
    rw (a.1, g.0) (body_reading-shared Two version a.0.1 s g.1 carried)

-- a frame at the front of bytes
unfoldable frame_at : List ℕ → Option (SignedStatement × List ℕ)
frame_at bytes =
    number_at w32 bytes >>= (λ len. bytes_at len.0 len.1 >>= (λ body. body_reading Two body.0 >>= (λ s. Some (s, body.1))))

frame_again : (s : SignedStatement) (rest : List ℕ) → IsFrame s → frame_at (frame_bytes s ++ rest) ≡ Some (s, rest)
unfolding frame_at frame_bytes
frame_again s rest is =
    let short = body_short Two s is in
    ap frame_at (append_assoc (to_be_bytes w32 (length (body_bytes s))) (body_bytes s) rest)
    ∙ rw (
      (number_reader w32 (2 ^ 32) wide32).again (length (body_bytes s)) (body_bytes s ++ rest) (omega arith),
      bytes_again
          (body_bytes s) rest,
      body_reading-again Two s is,
    ) refl

pub frames_part : FramesPart
frames_part = read_once frame_bytes IsFrame frame_at frame_again

-- ---- streams

-- a frame of any version is a frame
pub any_frame : (version : Version) (s : SignedStatement) → IsFrameIn version s → IsFrame s
any_frame version s is = record { read = refl; statement = is.statement; signature = is.signature; short = is.short }

-- a frame that frames of this version carry is one of it, and so is one of its own version
pub carried_frame : (version : Version) (s : SignedStatement) → IsFrame s → IsTrue (reads version (version_of s.statement))
    → IsFrameIn version s
carried_frame version s is carried = record { read = carried; statement = is.statement; signature = is.signature; short = is.short }

pub own_frame : (version : Version) (s : SignedStatement) → IsFrame s → version_of s.statement ≡ version → IsFrameIn version s
own_frame version s is own = carried_frame version s is (subst (λ (v : Version). reads version v ≡ true) (sym own) (reads_own version))

-- what begins with a frame of this version announces its body's length and has it whole, and the body is read
pub record HasFrame (version : Version) (s : SignedStatement) (bytes : List ℕ) : Type 0 where
  pub announces : announced bytes ≡ length (body_bytes s)
  pub short : length (body_bytes s) ≤ body_limit version
  pub whole : 4 + length (body_bytes s) ≤ length bytes
  pub body : body_reading version (take (announced bytes) (drop 4 bytes)) ≡ Some s

-- a body that frames of this version carry is as short as theirs
carried_short : (version own : Version) (n : ℕ) → reads version own ≡ true → n ≤ body_limit own → n ≤ body_limit version
carried_short One One n carried few = few
carried_short One Two n carried few = absurd cc
carried_short Two One n carried few = omega arith
carried_short Two Two n carried few = few

pub has_frame : (version : Version) (s : SignedStatement) (more : List ℕ) → IsFrameIn version s → HasFrame version s (frame_bytes s ++ more)
unfolding frame_bytes
has_frame version s more is =
    let few = body_short version s is in
    let short : length (body_bytes s) ≤ body_limit version =
    carried_short version (version_of s.statement) (length (body_bytes s)) is.read is.short in
    let lead = to_be_bytes w32 (length (body_bytes s)) in
    let regrouped : (lead ++ body_bytes s) ++ more ≡ lead ++ (body_bytes s ++ more) = append_assoc lead (body_bytes s) more in
    let behind = body_bytes s ++ more in
    let says : announced (lead ++ behind) ≡ length (body_bytes s) =
    ap (from_be_bytes w32) (take_at lead behind 4 refl) ∙ from_be_bytes-to_be_bytes_4 (length (body_bytes s)) (omega arith) in
    let read : body_reading version (take (announced (lead ++ behind)) (drop 4 (lead ++ behind))) ≡ Some s =
    ap (λ (n : ℕ). body_reading version (take n (drop 4 (lead ++ behind)))) says
    ∙ ap (λ (t : List ℕ). body_reading version (take (length (body_bytes s)) t)) (drop_at lead behind 4 refl)
    ∙ ap (body_reading version) (take_at (body_bytes s) more (length (body_bytes s)) refl)
    ∙ body_reading-again version s is in
    subst (HasFrame version s) (sym regrouped)
    (record {
      announces = says;
      short = short;
      whole =
          omega (arith, length-append lead behind, length-append (body_bytes s) more);
      body = read;
    })

-- what begins with no frame of this version
abbrev pub BeginsNoFrame : Version → List ℕ → Type 0
BeginsNoFrame version rest = (s : SignedStatement) (more : List ℕ) → IsFrameIn version s → rest ≡ frame_bytes s ++ more → ⊥

pub partial_begins_no_frame : (version : Version) (rest : List ℕ) → IsPartial version rest → BeginsNoFrame version rest
partial_begins_no_frame version rest (inl few) s more is e = let f = subst (HasFrame version s) (sym e) (has_frame version s more is) in let
    whole =
    f.whole in omega arith
partial_begins_no_frame version rest (inr less) s more is e = let f = subst (HasFrame version s) (sym e) (has_frame version s more is) in
    let whole =
    f.whole in let announces = f.announces in omega (arith, less.1)

pub too_long_begins_no_frame : (version : Version) (rest : List ℕ) → BeginsTooLong version rest → BeginsNoFrame version rest
too_long_begins_no_frame version rest long s more is e = let f = subst (HasFrame version s) (sym e) (has_frame version s more is) in let
    announces =
    f.announces in let short = f.short in omega (arith, long.1)

pub malformed_begins_no_frame : (version : Version) (rest : List ℕ) → BeginsMalformed version rest → BeginsNoFrame version rest
malformed_begins_no_frame version rest bad s more is e = let f =
    subst (HasFrame version s) (sym e) (has_frame version s more is) in absurd (none-some s (sym bad.3 ∙ f.body))

-- a stream splits in one way, where what is after its frames begins with none
pub frames_once : (version : Version) (frames others : List SignedStatement) (bytes rest more : List ℕ) → Frames version bytes frames rest
    → Frames version bytes others more
    → BeginsNoFrame version rest → BeginsNoFrame version more → (frames ≡ others) × (rest ≡ more)
frames_once version [] [] bytes rest more f g ends stops = (refl, sym f.1 ∙ g.1)
frames_once version [] (b ∷ others) bytes rest more f g ends stops =
    absurd (ends b (flat_map frame_bytes others ++ more) g.0.0
    (sym f.1 ∙ g.1 ∙ append_assoc (frame_bytes b) (flat_map frame_bytes others) more))
frames_once version (a ∷ frames) [] bytes rest more f g ends stops =
    absurd (stops a (flat_map frame_bytes frames ++ rest) f.0.0
    (sym g.1 ∙ f.1 ∙ append_assoc (frame_bytes a) (flat_map frame_bytes frames) rest))
frames_once version (a ∷ frames) (b ∷ others) bytes rest more f g ends stops =
    let parts : frame_bytes a ++ (flat_map frame_bytes frames ++ rest) ≡ frame_bytes b ++ (flat_map frame_bytes others ++ more) =
    sym (append_assoc (frame_bytes a) (flat_map frame_bytes frames) rest) ∙ sym f.1 ∙ g.1
    ∙ append_assoc (frame_bytes b) (flat_map frame_bytes others) more in
    let first = frames_part a b (flat_map frame_bytes frames ++ rest) (flat_map frame_bytes others ++ more) (any_frame version a f.0.0)
    (any_frame version b g.0.0) parts in
    let later = frames_once version frames others (flat_map frame_bytes frames ++ rest) rest more (f.0.1, refl) (g.0.1, first.1) ends stops
    in
    (cons_same a b frames others first.0 later.0, later.1)
  where
    cons_same : (x y : SignedStatement) (xs ys : List SignedStatement) → x ≡ y → xs ≡ ys → x ∷ xs ≡ y ∷ ys
    cons_same x y xs ys p q = cc

pub one_split : OneSplit
one_split version bytes frames others rest more f g =
    frames_once version frames others bytes rest more f.0 g.0 (partial_begins_no_frame version rest f.1)
    (partial_begins_no_frame version more g.1)

-- what is partial is neither of what a stream breaks off at, and they aren't each other
partial_not_too_long : (version : Version) (rest : List ℕ) → IsPartial version rest → BeginsTooLong version rest → ⊥
partial_not_too_long version rest (inl few) long = omega (arith, long.0)
partial_not_too_long version rest (inr less) long = omega (arith, less.0, long.1)

partial_not_malformed : (version : Version) (rest : List ℕ) → IsPartial version rest → BeginsMalformed version rest → ⊥
partial_not_malformed version rest (inl few) bad = omega (arith, bad.0)
partial_not_malformed version rest (inr less) bad = omega (arith, less.1, bad.2)

too_long_not_malformed : (version : Version) (rest : List ℕ) → BeginsTooLong version rest → BeginsMalformed version rest → ⊥
too_long_not_malformed version rest long bad = omega (arith, long.1, bad.1)

pub split_or_break : SplitOrBreak
split_or_break version bytes frames others rest f = (
  λ broken.
      let same = frames_once version frames others bytes rest broken.0 f.0 broken.1.0 (partial_begins_no_frame version rest f.1)
      (too_long_begins_no_frame version broken.0 broken.1.1) in
      partial_not_too_long version rest f.1 (subst (BeginsTooLong version) (sym same.1) broken.1.1),
  λ broken.
      let same = frames_once version frames others bytes rest broken.0 f.0 broken.1.0 (partial_begins_no_frame version rest f.1)
      (malformed_begins_no_frame version broken.0 broken.1.1) in
      partial_not_malformed version rest f.1 (subst (BeginsMalformed version) (sym same.1) broken.1.1),
)

pub one_break : OneBreak
one_break version bytes frames others = (
  λ f g. (frames_once version frames others bytes f.0 g.0 f.1.0 g.1.0 (too_long_begins_no_frame version f.0 f.1.1)
      (too_long_begins_no_frame version g.0 g.1.1)).0,
  λ f g. (frames_once version frames others bytes f.0 g.0 f.1.0 g.1.0 (malformed_begins_no_frame version f.0 f.1.1)
      (malformed_begins_no_frame version g.0 g.1.1)).0,
  λ f g.
      let same = frames_once version frames others bytes f.0 g.0 f.1.0 g.1.0 (too_long_begins_no_frame version f.0 f.1.1)
      (malformed_begins_no_frame version g.0 g.1.1) in
      too_long_not_malformed version f.0 f.1.1 (subst (BeginsMalformed version) (sym same.1) g.1.1),
)
