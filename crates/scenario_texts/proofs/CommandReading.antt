-- Commands are read back from their text.
use Rattle.std.proofs.Common.{◌≡◌, ◌∙◌, ◌≤◌, ℕ, zero, suc, Bool, true, false, cond, List, [], ◌∷◌, length, refl, sym, ap, subst, suc-le-suc}
use Rattle.std.proofs.Common.{zero-le, arith}
use Rattle.std.specs.Prelude.{nat_le, codes, Option, Some, None, option_and_then, Contains}
use Rattle.std.specs.Option.{option_map}
use Rattle.std.specs.Str.{bytes_eq}
use Rattle.std.proofs.Math.Bridge.{le_prop, no_suc-le-zero}
use Rattle.std.proofs.lemmas.Bool.{leb-true}
use Rattle.std.proofs.lemmas.Slice.Eq.{bytes_eq-Decides}
use Rattle.std.proofs.lemmas.Option.{cond_some}
use Rattle.ledger_model.specs.Limits.{max_key_len}
use Rattle.ledger_model.specs.Versions.{batch_limit}
use Rattle.ledger_model.specs.declared.version.Version.{Version}
use Rattle.ledger_model.specs.Values.{Value, IsValueIn}
use Rattle.plain_text.specs.Numbers.{number_text}
use Rattle.scenario_texts.specs.Words.{keyword_text}
use Rattle.scenario_texts.specs.Lawful.{IsNumber, IsLie, IsCommand}
use Rattle.scenario_texts.specs.Texts.{lie_words, command_words}
use Rattle.scenario_texts.specs.Reading.{keyword_among, all_keywords, keyword_of, word_number, positive_of, one_number, two_numbers}
use Rattle.scenario_texts.specs.Reading.{three_numbers, optional_bytes, optional_hex, batch_of, towards_of, liar_of, at_most, lie_at}
use Rattle.scenario_texts.specs.Reading.{lie_of}
use Rattle.scenario_texts.specs.Reading.{submit_of, inject_of, query_command, propose_of, retire_of, pass_of, simple_of, stale_of, lying_of}
use Rattle.scenario_texts.specs.Reading.{command_of}
use Rattle.scenario_texts.specs.declared.keyword.Keyword.{Keyword}
use Rattle.scenario_texts.specs.declared.keyword.Keyword.TheVariants as keyword
use Rattle.scenario_texts.specs.declared.command.Towards.{Towards}
use Rattle.scenario_texts.specs.declared.command.Lie.{Lie}
use Rattle.scenario_texts.specs.declared.command.Command.{Command}
use Rattle.scenario_texts.specs.declared.command.Command.TheVariants as command
use Rattle.scenario_texts.proofs.Options.{bind_some, map_some}
use Rattle.scenario_texts.proofs.Numbers.{number_of-sound}
use Rattle.scenario_texts.proofs.FieldReading.{positive_of-sound, positive_of-again, one_number-sound, two_numbers-sound}
use Rattle.scenario_texts.proofs.FieldReading.{three_numbers-sound, optional_bytes-sound, optional_hex-sound, towards_of-sound}
use Rattle.scenario_texts.proofs.FieldReading.{towards_of-again, liar_of-sound, liar_of-again}
use Rattle.scenario_texts.proofs.BatchLaws.{batch_of-sound, batch_of-again}

-- a keyword is read
pub keyword_of-again : (k : Keyword) → keyword_of (keyword_text k) ≡ Some k
unfolding keyword_of
keyword_of-again keyword.Config = refl
keyword_of-again keyword.Keys = refl
keyword_of-again keyword.Frames = refl
keyword_of-again keyword.Liar = refl
keyword_of-again keyword.Submit = refl
keyword_of-again keyword.Propose = refl
keyword_of-again keyword.End = refl
keyword_of-again keyword.Pass = refl
keyword_of-again keyword.Inject = refl
keyword_of-again keyword.Execute = refl
keyword_of-again keyword.Query = refl
keyword_of-again keyword.Retire = refl
keyword_of-again keyword.Info = refl
keyword_of-again keyword.Silent = refl
keyword_of-again keyword.Round = refl
keyword_of-again keyword.LieReport = refl
keyword_of-again keyword.LieLock = refl
keyword_of-again keyword.LieStale = refl
keyword_of-again keyword.LieAck = refl

-- the keyword found is the word
among_sound : (ks : List Keyword) (word : List ℕ) (k : Keyword) → keyword_among ks word ≡ Some k → word ≡ keyword_text k
among_sound [] word k e = absurd cc
among_sound (x ∷ ks) word k e = by_test (bytes_eq word (keyword_text x)) refl e (among_sound ks word k)
  where
    by_test : (t : Bool) → bytes_eq word (keyword_text x) ≡ t → cond t (Some x) (keyword_among ks word) ≡ Some k
        → (keyword_among ks word ≡ Some k → word ≡ keyword_text k) → word ≡ keyword_text k
    by_test true is e later = let same : x ≡ k = cc in (bytes_eq-Decides word (keyword_text x)).0 is ∙ ap keyword_text same
    by_test false is e later = later e

-- what was read is that word
pub keyword_of-sound : (word : List ℕ) (k : Keyword) → keyword_of word ≡ Some k → word ≡ keyword_text k
unfolding keyword_of
keyword_of-sound word k e = among_sound all_keywords word k e

-- n is at most the limit in one way
at_most-is : (n limit : ℕ) (few : n ≤ limit) → at_most n limit ≡ Some few
at_most-is zero limit few = ap Some (le_prop zero-le few)
at_most-is (suc n) zero few = absurd (no_suc-le-zero few)
at_most-is (suc n) (suc limit) few =
    ap (option_map suc-le-suc) (at_most-is n limit (omega (arith, few))) ∙ ap Some (le_prop (suc-le-suc (omega (arith, few))) few)

-- the lie of its parts
abbrev lie_made : Version → Option ℕ → Option ℕ → Option ℕ → Option Value → Option Towards → Option Lie
lie_made version l h k b t =
    option_and_then (λ liar. option_and_then (λ height. option_and_then (λ phase. option_and_then (λ batch. option_and_then (λ to.
    lie_at version liar height phase batch to) t) b) k) h) l

record LieParts (version : Version) (l h k : Option ℕ) (b : Option Value) (t : Option Towards) (lie : Lie) : Type 0 where
  versions : lie.version ≡ version
  liar : l ≡ Some lie.liar
  height : h ≡ Some lie.height
  phase : k ≡ Some lie.phase
  batch : b ≡ Some lie.batch
  to : t ≡ Some lie.to

made_parts : (version : Version) (x y z : ℕ) (v : Value) (w : Towards) (lie : Lie) → lie_at version x y z v w ≡ Some lie
    → LieParts version (Some x) (Some y) (Some z) (Some v) (Some w) lie
unfolding lie_at
made_parts version x zero z v w lie e = absurd cc
made_parts version x (suc y) zero v w lie e = absurd cc
made_parts version x (suc y) (suc z) v w lie e =
    let make : length v ≤ batch_limit version → Lie = λ fits. record {
      version = version;
      liar = x;
      height = suc y;
      phase = suc z;
      batch = v;
      to = w;
      some_height = suc-le-suc zero-le;
      some_phase = suc-le-suc zero-le;
      fits = fits;
    } in
    let (fits, (few, same)) = map_some make (at_most (length v) (batch_limit version)) lie e in
    subst (λ (m : Lie). LieParts version (Some x) (Some (suc y)) (Some (suc z)) (Some v) (Some w) m) same
    (record { versions = refl; liar = refl; height = refl; phase = refl; batch = refl; to = refl })

-- any lie is the one at its height and in its phase
lie_at-is : (version : Version) (x y z : ℕ) (v : Value) (w : Towards) (some_y : 1 ≤ y) (some_z : 1 ≤ z)
    (fits : length v ≤ batch_limit version)
    → lie_at version x y z v w
    ≡ Some (record {
      version = version;
      liar = x;
      height = y;
      phase = z;
      batch = v;
      to = w;
      some_height = some_y;
      some_phase = some_z;
      fits = fits;
    })
unfolding lie_at
lie_at-is version x zero z v w p q fits = absurd (no_suc-le-zero p)
lie_at-is version x (suc y) zero v w p q fits = absurd (no_suc-le-zero q)
lie_at-is version x (suc y) (suc z) v w p q fits =
    rw (le_prop p (suc-le-suc zero-le), le_prop q (suc-le-suc zero-le), at_most-is (length v) (batch_limit version) fits) refl

pub lie_at-again : (lie : Lie) → lie_at lie.version lie.liar lie.height lie.phase lie.batch lie.to ≡ Some lie
lie_at-again lie =
    lie_at-is lie.version lie.liar lie.height lie.phase lie.batch lie.to lie.some_height lie.some_phase lie.fits

-- what is read as the lie of these parts is any lie with them
pub lie_made-of : (lie : Lie) (read : Option Lie) → lie_at lie.version lie.liar lie.height lie.phase lie.batch lie.to ≡ read
    → Some lie ≡ read
lie_made-of lie read same = sym (lie_at-again lie) ∙ same

lie_parts : (version : Version) (l h k : Option ℕ) (b : Option Value) (t : Option Towards) (lie : Lie)
    → lie_made version l h k b t ≡ Some lie → LieParts version l h k b t lie
lie_parts version None h k b t lie e = absurd cc
lie_parts version (Some x) None k b t lie e = absurd cc
lie_parts version (Some x) (Some y) None b t lie e = absurd cc
lie_parts version (Some x) (Some y) (Some z) None t lie e = absurd cc
lie_parts version (Some x) (Some y) (Some z) (Some v) None lie e = absurd cc
lie_parts version (Some x) (Some y) (Some z) (Some v) (Some w) lie e = made_parts version x y z v w lie e

-- a lie
lie_of-sound : (version : Version) (liars : List ℕ) (fields : List (List ℕ)) (lie : Lie) → lie_of version liars fields ≡ Some lie
    → (fields ≡ lie_words lie) × IsLie version liars lie
unfolding lie_of
lie_of-sound version liars (l ∷ h ∷ k ∷ b ∷ t ∷ []) lie e =
    let parts = lie_parts version (liar_of liars l) (positive_of h) (positive_of k) (batch_of version b) (towards_of t) lie e in
    let who = liar_of-sound liars l lie.liar parts.liar in
    let height = positive_of-sound h lie.height parts.height in
    let phase = positive_of-sound k lie.phase parts.phase in
    let what = batch_of-sound version b lie.batch parts.batch in
    let to = towards_of-sound t lie.to parts.to in (
      cc (who.0, height.0, phase.0, what.0, to.0),
      record {
        versions = parts.versions;
        by_liar = who.1.0;
        height = height.1;
        phase = phase.1;
        batch = subst (λ (own : Version). IsValueIn own lie.batch) (sym parts.versions) what.1;
        to =
            to.1;
      },
    )
lie_of-sound version liars [] lie e = absurd cc
lie_of-sound version liars (l ∷ []) lie e = absurd cc
lie_of-sound version liars (l ∷ h ∷ []) lie e = absurd cc
lie_of-sound version liars (l ∷ h ∷ k ∷ []) lie e = absurd cc
lie_of-sound version liars (l ∷ h ∷ k ∷ b ∷ []) lie e = absurd cc
lie_of-sound version liars (l ∷ h ∷ k ∷ b ∷ t ∷ x ∷ fields) lie e = absurd cc

pub lie_of-again : (version : Version) (liars : List ℕ) (lie : Lie) → ((r : ℕ) → Contains liars r → IsNumber r) → IsLie version liars lie
    → lie_of version liars (lie_words lie) ≡ Some lie
unfolding lie_of
lie_of-again version liars lie small is =
    rw (
      sym is.versions,
      liar_of-again liars lie.liar is.by_liar (small lie.liar is.by_liar),
      positive_of-again lie.height is.height,
      positive_of-again
          lie.phase is.phase,
      batch_of-again lie.version lie.batch is.batch,
      towards_of-again lie.to is.to,
    )
    (lie_at-again lie)

-- a line that says a step
abbrev Says : Version → List ℕ → List ℕ → List (List ℕ) → Command → Type 0
Says version liars head fields c = (head ∷ fields ≡ command_words c) × IsCommand version liars c

submit_of-sound : (version : Version) (liars : List ℕ) (fields : List (List ℕ)) (c : Command) → submit_of fields ≡ Some c
    → Says version liars (codes "submit") fields c
unfolding submit_of
submit_of-sound version liars [] c e = absurd cc
submit_of-sound version liars (r ∷ rest) c e =
    let (replica, (first, more)) =
    bind_some (λ n. option_and_then (λ bytes. Some (command.Submit n bytes)) (optional_bytes rest)) (word_number r) c e in
    let (bytes, (second, same)) = bind_some (λ b. Some (command.Submit replica b)) (optional_bytes rest) c more in
    let number = number_of-sound r replica first in
    let spelled = optional_bytes-sound rest bytes second in
    let equal : command.Submit replica bytes ≡ c = cc in
    subst (λ (x : Command). Says version liars (codes "submit") (r ∷ rest) x) equal (cc (number.0, spelled.0), (number.1, spelled.1))

inject_of-sound : (version : Version) (liars : List ℕ) (fields : List (List ℕ)) (c : Command) → inject_of fields ≡ Some c
    → Says version liars (codes "inject") fields c
unfolding inject_of
inject_of-sound version liars [] c e = absurd cc
inject_of-sound version liars (r ∷ rest) c e =
    let (to, (first, more)) = bind_some (λ n. option_and_then (λ bytes. Some (command.Inject n bytes)) (optional_hex rest)) (word_number r) c
    e in
    let (bytes, (second, same)) = bind_some (λ b. Some (command.Inject to b)) (optional_hex rest) c more in
    let number = number_of-sound r to first in
    let spelled = optional_hex-sound rest bytes second in
    let equal : command.Inject to bytes ≡ c = cc in
    subst (λ (x : Command). Says version liars (codes "inject") (r ∷ rest) x) equal (cc (number.0, spelled.0), (number.1, spelled.1))

query_of-sound : (version : Version) (liars : List ℕ) (fields : List (List ℕ)) (c : Command) → query_command fields ≡ Some c
    → Says version liars (codes "query") fields c
unfolding query_command
query_of-sound version liars [] c e = absurd cc
query_of-sound version liars (r ∷ rest) c e =
    let (replica, (first, more)) =
    bind_some (λ n. option_and_then (λ key. cond (nat_le (length key) max_key_len) (Some (command.Query n key)) None)
    (optional_bytes rest)) (word_number r) c e in
    let (key, (second, fits)) = bind_some (λ b. cond (nat_le (length b) max_key_len) (Some (command.Query replica b)) None)
    (optional_bytes rest) c more in
    let (test, equal) = cond_some (nat_le (length key) max_key_len) (command.Query replica key) c fits in
    let number = number_of-sound r replica first in
    let spelled = optional_bytes-sound rest key second in
    subst (λ (x : Command). Says version liars (codes "query") (r ∷ rest) x) equal
    (cc (number.0, spelled.0), (number.1, spelled.1, leb-true (length key) max_key_len test))

propose_of-sound : (version : Version) (liars : List ℕ) (fields : List (List ℕ)) (c : Command) → propose_of fields ≡ Some c
    → Says version liars (codes "propose") fields c
unfolding propose_of
propose_of-sound version liars fields c e =
    let (n, (read, equal)) = map_some (λ (n : ℕ × ℕ). command.Propose n.0 n.1) (two_numbers fields) c e in
    let spelled = two_numbers-sound fields n.0 n.1 read in
    subst (λ (x : Command). Says version liars (codes "propose") fields x) equal (ap (λ f. codes "propose" ∷ f) spelled.0, spelled.1)

retire_of-sound : (version : Version) (liars : List ℕ) (fields : List (List ℕ)) (c : Command) → retire_of fields ≡ Some c
    → Says version liars (codes "retire") fields c
unfolding retire_of
retire_of-sound version liars fields c e =
    let (n, (read, equal)) = map_some (λ (n : ℕ × ℕ). command.Retire n.0 n.1) (two_numbers fields) c e in
    let spelled = two_numbers-sound fields n.0 n.1 read in
    subst (λ (x : Command). Says version liars (codes "retire") fields x) equal (ap (λ f. codes "retire" ∷ f) spelled.0, spelled.1)

pass_of-sound : (version : Version) (liars : List ℕ) (fields : List (List ℕ)) (c : Command) → pass_of fields ≡ Some c
    → Says version liars (codes "pass") fields c
unfolding pass_of
pass_of-sound version liars fields c e =
    let (n, (read, equal)) = map_some (λ (n : ℕ × ℕ × ℕ). command.Pass n.0 n.1 n.2) (three_numbers fields) c e in
    let spelled = three_numbers-sound fields n.0 n.1 n.2 read in
    subst (λ (x : Command). Says version liars (codes "pass") fields x) equal (ap (λ f. codes "pass" ∷ f) spelled.0, spelled.1)

-- a lie whose proof has the reports of another phase
stale_of-sound : (version : Version) (liars : List ℕ) (fields : List (List ℕ)) (c : Command) → stale_of version liars fields ≡ Some c
    → Says version liars (codes "lie-stale") fields c
unfolding stale_of
stale_of-sound version liars (l ∷ h ∷ k ∷ j ∷ b ∷ t ∷ []) c e =
    let read = lie_of version liars (l ∷ h ∷ k ∷ b ∷ t ∷ []) in
    let (source, (first, more)) =
    bind_some (λ n. option_and_then (λ lie. Some (command.LieStale lie n)) read) (positive_of j) c e in
    let (lie, (second, same)) = bind_some (λ x. Some (command.LieStale x source)) read c more in
    let number = positive_of-sound j source first in
    let spelled = lie_of-sound version liars (l ∷ h ∷ k ∷ b ∷ t ∷ []) lie second in
    let equal : command.LieStale lie source ≡ c = cc in
    subst (λ (x : Command). Says version liars (codes "lie-stale") (l ∷ h ∷ k ∷ j ∷ b ∷ t ∷ []) x) equal
    (cc (number.0, spelled.0), (spelled.1, number.1.0, number.1.1))
stale_of-sound version liars [] c e = absurd cc
stale_of-sound version liars (l ∷ []) c e = absurd cc
stale_of-sound version liars (l ∷ h ∷ []) c e = absurd cc
stale_of-sound version liars (l ∷ h ∷ k ∷ []) c e = absurd cc
stale_of-sound version liars (l ∷ h ∷ k ∷ j ∷ []) c e = absurd cc
stale_of-sound version liars (l ∷ h ∷ k ∷ j ∷ b ∷ []) c e = absurd cc
stale_of-sound version liars (l ∷ h ∷ k ∷ j ∷ b ∷ t ∷ x ∷ fields) c e = absurd cc

-- a step of one number
single_sound : (version : Version) (liars : List ℕ) (head : List ℕ) (make : ℕ → Command)
    → ((n : ℕ) → command_words (make n) ≡ head ∷ number_text n ∷ [])
    → ((n : ℕ) → IsNumber n → IsCommand version liars (make n))
    → (fields : List (List ℕ)) (c : Command) → option_map make (one_number fields) ≡ Some c → Says version liars head fields c
single_sound version liars head make words lawful fields c e =
    let (n, (read, equal)) = map_some make (one_number fields) c e in
    let spelled = one_number-sound fields n read in
    subst (λ (x : Command). Says version liars head fields x) equal (ap (λ f. head ∷ f) spelled.0 ∙ sym (words n), lawful n spelled.1)

-- a step that is a lie
lying_sound : (version : Version) (liars : List ℕ) (head : List ℕ) (make : Lie → Command)
    → ((lie : Lie) → command_words (make lie) ≡ head ∷ lie_words lie)
    → ((lie : Lie) → IsLie version liars lie → IsCommand version liars (make lie))
    → (fields : List (List ℕ)) (c : Command) → option_map make (lie_of version liars fields) ≡ Some c → Says version liars head fields c
lying_sound version liars head make words lawful fields c e =
    let (lie, (read, equal)) = map_some make (lie_of version liars fields) c e in
    let spelled = lie_of-sound version liars fields lie read in
    subst (λ (x : Command). Says version liars head fields x) equal (ap (λ f. head ∷ f) spelled.0 ∙ sym (words lie), lawful lie spelled.1)

-- what was read is written so
pub command_of-sound : (version : Version) (liars : List ℕ) (k : Keyword) (fields : List (List ℕ)) (c : Command)
    → command_of version liars k fields ≡ Some c
    → Says version liars (keyword_text k) fields c
unfolding command_of simple_of lying_of
command_of-sound version liars keyword.Submit fields c e = submit_of-sound version liars fields c e
command_of-sound version liars keyword.Propose fields c e = propose_of-sound version liars fields c e
command_of-sound version liars keyword.Pass fields c e = pass_of-sound version liars fields c e
command_of-sound version liars keyword.Inject fields c e = inject_of-sound version liars fields c e
command_of-sound version liars keyword.Query fields c e = query_of-sound version liars fields c e
command_of-sound version liars keyword.Retire fields c e = retire_of-sound version liars fields c e
command_of-sound version liars keyword.LieReport fields c e =
    lying_sound version liars (codes "lie-report") command.LieReport (λ lie. refl) (λ lie is. is) fields c e
command_of-sound version liars keyword.LieLock fields c e =
    lying_sound version liars (codes "lie-lock") command.LieLock (λ lie. refl) (λ lie is. is) fields c e
command_of-sound version liars keyword.LieStale fields c e = stale_of-sound version liars fields c e
command_of-sound version liars keyword.LieAck fields c e =
    lying_sound version liars (codes "lie-ack") command.LieAck (λ lie. refl) (λ lie is. is) fields c e
command_of-sound version liars keyword.End fields c e = single_sound version liars (codes "end") command.End (λ n. refl)
    (λ n small. small) fields c e
command_of-sound version liars keyword.Execute fields c e =
    single_sound version liars (codes "execute") command.Execute (λ n. refl) (λ n small. small) fields c e
command_of-sound version liars keyword.Info fields c e = single_sound version liars (codes "info") command.Info (λ n. refl)
    (λ n small. small) fields c e
command_of-sound version liars keyword.Silent [] c e = let equal : command.Silent ≡ c =
    cc in subst (λ (x : Command). Says version liars (codes "silent") [] x) equal (refl, tt)
command_of-sound version liars keyword.Silent (a ∷ fields) c e = absurd cc
command_of-sound version liars keyword.Round [] c e = let equal : command.Round ≡ c =
    cc in subst (λ (x : Command). Says version liars (codes "round") [] x) equal (refl, tt)
command_of-sound version liars keyword.Round (a ∷ fields) c e = absurd cc
command_of-sound version liars keyword.Config fields c e = absurd cc
command_of-sound version liars keyword.Keys fields c e = absurd cc
command_of-sound version liars keyword.Frames fields c e = absurd cc
command_of-sound version liars keyword.Liar fields c e = absurd cc
