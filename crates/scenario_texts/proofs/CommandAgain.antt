-- Commands are read back from their text, and their lines consist of words.
use Rattle.std.proofs.Common.{◌≡◌, ℕ, true, List, [], ◌∷◌, length, refl, arith}
use Rattle.std.specs.Prelude.{◌&&◌, nat_le, codes, Some, Contains}
use Rattle.std.specs.List.{list_all}
use Rattle.std.proofs.lemmas.Bool.{and_parts, leb-true}
use Rattle.std.proofs.lemmas.Bool.Decides.{nat_tests}
use Rattle.std.proofs.lemmas.List.Elements.{All-weaker}
use Rattle.std.proofs.lemmas.List.Sums.{AllPass-from_list_all}
use Rattle.ledger_model.specs.Limits.{max_key_len}
use Rattle.ledger_model.specs.declared.version.Version.{Version}
use Rattle.plain_text.specs.Numbers.{number_text}
use Rattle.scenario_texts.specs.Plans.{Plan}
use Rattle.scenario_texts.specs.Words.{keyword_text}
use Rattle.scenario_texts.specs.Lawful.{IsNumber, IsByteList, IsTowards, IsLie, IsCommand}
use Rattle.scenario_texts.specs.Texts.{bytes_words, hex_words, lie_words, stale_words, command_words, towards_text}
use Rattle.scenario_texts.specs.Reading.{submit_of, inject_of, query_command, propose_of, retire_of, pass_of, simple_of, stale_of, lying_of}
use Rattle.scenario_texts.specs.Reading.{command_of}
use Rattle.scenario_texts.specs.Reading.{with_command, going_on}
use Rattle.scenario_texts.specs.declared.keyword.Keyword.{Keyword}
use Rattle.scenario_texts.specs.declared.keyword.Keyword.TheVariants as keyword
use Rattle.scenario_texts.specs.declared.command.Towards.{Towards}
use Rattle.scenario_texts.specs.declared.command.Towards.TheVariants.{One, All}
use Rattle.scenario_texts.specs.declared.command.Lie.{Lie}
use Rattle.scenario_texts.specs.declared.command.Command.{Command}
use Rattle.scenario_texts.specs.declared.command.Command.TheVariants as command
use Rattle.scenario_texts.proofs.Numbers.{number_of-again}
use Rattle.scenario_texts.proofs.HexReading.{IsWord-encode_lower}
use Rattle.scenario_texts.proofs.FieldReading.{one_number-again, two_numbers-again, three_numbers-again, optional_bytes-again}
use Rattle.scenario_texts.proofs.FieldReading.{optional_hex-again, positive_of-again}
use Rattle.scenario_texts.proofs.BatchLaws.{IsWord-batch_text}
use Rattle.scenario_texts.proofs.CommandReading.{lie_of-again}
use Rattle.scenario_texts.proofs.Visible.{IsVisible, IsWord, IsWords, IsWord-bytes_text, IsWord-number_text}

-- the words of the step are read so, whatever was read before
pub record IsRead (version : Version) (liars : List ℕ) (c : Command) : Type 0 where
  pub keyword : Keyword
  pub fields : List (List ℕ)
  pub spelled : command_words c ≡ keyword_text keyword ∷ fields
  pub reads : command_of version liars keyword fields ≡ Some c
  pub is_step : (p : Plan) → going_on p keyword fields ≡ with_command p keyword fields

-- a step is read again
pub command_again : (version : Version) (liars : List ℕ) → ((r : ℕ) → Contains liars r → IsNumber r) → (c : Command)
    → IsCommand version liars c → IsRead version liars c
unfolding command_of going_on submit_of inject_of query_command propose_of retire_of pass_of simple_of stale_of lying_of
command_again version liars small (command.Submit replica bytes) (number, fits) = record {
  keyword = keyword.Submit;
  fields = number_text replica ∷ bytes_words bytes;
  spelled = refl;
  reads = rw (number_of-again replica number, optional_bytes-again bytes fits) refl;
  is_step = λ p. refl;
}
command_again version liars small (command.Propose replica height) (number, fits) = record {
  keyword = keyword.Propose;
  fields = number_text replica ∷ number_text height ∷ [];
  spelled = refl;
  reads = rw (two_numbers-again replica height number fits) refl;
  is_step = λ p. refl;
}
command_again version liars small (command.End replica) number = record {
  keyword = keyword.End;
  fields = number_text replica ∷ [];
  spelled = refl;
  reads = rw (one_number-again replica number) refl;
  is_step = λ p. refl;
}
command_again version liars small (command.Pass from index to) (first, second, third) = record {
  keyword = keyword.Pass;
  fields = number_text from ∷ number_text index ∷ number_text to ∷ [];
  spelled = refl;
  reads = rw (three_numbers-again from index to first second third) refl;
  is_step = λ p. refl;
}
command_again version liars small (command.Inject to bytes) (number, fits) = record {
  keyword = keyword.Inject;
  fields = number_text to ∷ hex_words bytes;
  spelled = refl;
  reads = rw (number_of-again to number, optional_hex-again bytes fits) refl;
  is_step = λ p. refl;
}
command_again version liars small (command.Execute replica) number = record {
  keyword = keyword.Execute;
  fields = number_text replica ∷ [];
  spelled = refl;
  reads = rw (one_number-again replica number) refl;
  is_step = λ p. refl;
}
command_again version liars small (command.Query replica key) (number, fits, short) = record {
  keyword = keyword.Query;
  fields = number_text replica ∷ bytes_words key;
  spelled = refl;
  reads =
      let few : nat_le (length key) max_key_len ≡ true = grind (arith, nat_tests, short) in
      rw (number_of-again replica number, optional_bytes-again key fits, few) refl;
  is_step = λ p. refl;
}
command_again version liars small (command.Retire replica floor) (number, fits) = record {
  keyword = keyword.Retire;
  fields = number_text replica ∷ number_text floor ∷ [];
  spelled = refl;
  reads = rw (two_numbers-again replica floor number fits) refl;
  is_step = λ p. refl;
}
command_again version liars small (command.Info replica) number = record {
  keyword = keyword.Info;
  fields = number_text replica ∷ [];
  spelled = refl;
  reads = rw (one_number-again replica number) refl;
  is_step = λ p. refl;
}
command_again version liars small command.Silent is =
    record { keyword = keyword.Silent; fields = []; spelled = refl; reads = refl; is_step = λ p. refl }
command_again version liars small command.Round is =
    record { keyword = keyword.Round; fields = []; spelled = refl; reads = refl; is_step = λ p. refl }
command_again version liars small (command.LieReport lie) is = record {
  keyword = keyword.LieReport;
  fields = lie_words lie;
  spelled = refl;
  reads = rw (lie_of-again version liars lie small is) refl;
  is_step = λ p. refl;
}
command_again version liars small (command.LieLock lie) is = record {
  keyword = keyword.LieLock;
  fields = lie_words lie;
  spelled = refl;
  reads = rw (lie_of-again version liars lie small is) refl;
  is_step = λ p. refl;
}
command_again version liars small (command.LieStale lie source) (is, above, number) = record {
  keyword = keyword.LieStale;
  fields = stale_words lie source;
  spelled = refl;
  reads = rw (positive_of-again source (above, number), lie_of-again version liars lie small is) refl;
  is_step = λ p. refl;
}
command_again version liars small (command.LieAck lie) is = record {
  keyword = keyword.LieAck;
  fields = lie_words lie;
  spelled = refl;
  reads = rw (lie_of-again version liars lie small is) refl;
  is_step = λ p. refl;
}

-- a text that passes is a word
pub seen_word : (word : List ℕ) → list_all (λ b. nat_le 33 b && nat_le b 126) word ≡ true → IsWord word
seen_word word e = All-weaker (λ b. (nat_le 33 b && nat_le b 126) ≡ true) IsVisible visible word
    (AllPass-from_list_all (λ b. nat_le 33 b && nat_le b 126) word e)
  where
    visible : (b : ℕ) → (nat_le 33 b && nat_le b 126) ≡ true → IsVisible b
    visible b e = let parts = and_parts (nat_le 33 b) (nat_le b 126) e in (leb-true 33 b parts.0, leb-true b 126 parts.1)

-- bytes, of which there may be none
words_of_bytes : (bytes : List ℕ) → IsByteList bytes → IsWords (bytes_words bytes)
words_of_bytes [] fits = tt
words_of_bytes (b ∷ bytes) fits = (IsWord-bytes_text (b ∷ bytes) fits, tt)

words_of_hex : (bytes : List ℕ) → IsByteList bytes → IsWords (hex_words bytes)
words_of_hex [] fits = tt
words_of_hex (b ∷ bytes) fits = (IsWord-encode_lower (b ∷ bytes) fits, tt)

-- where a lie goes
word_towards : (to : Towards) → IsTowards to → IsWord (towards_text to)
word_towards (One n) small = IsWord-number_text n small
word_towards All is = seen_word (codes "all") refl

-- what a lie says
words_of_lie : (version : Version) (liars : List ℕ) (lie : Lie) → ((r : ℕ) → Contains liars r → IsNumber r) → IsLie version liars lie
    → IsWords (lie_words lie)
words_of_lie version liars lie small is = (
  IsWord-number_text lie.liar (small lie.liar is.by_liar),
  (
    IsWord-number_text lie.height is.height.1,
    (
      IsWord-number_text lie.phase is.phase.1,
      (IsWord-batch_text lie.version lie.batch is.batch, (word_towards lie.to is.to, tt)),
    ),
  ),
)

-- what a lie says whose proof has the reports of another phase
words_of_stale : (version : Version) (liars : List ℕ) (lie : Lie) (source : ℕ) → ((r : ℕ) → Contains liars r → IsNumber r)
    → IsLie version liars lie
    → IsNumber source → IsWords (stale_words lie source)
words_of_stale version liars lie source small is number =
    let (liar, (height, (phase, others))) = words_of_lie version liars lie small is in
    (liar, (height, (phase, (IsWord-number_text source number, others))))

-- the words of a step
pub words_of_command : (version : Version) (liars : List ℕ) → ((r : ℕ) → Contains liars r → IsNumber r) → (c : Command)
    → IsCommand version liars c
    → IsWords (command_words c)
words_of_command version liars small (command.Submit replica bytes) (number, fits) =
    (seen_word (codes "submit") refl, (IsWord-number_text replica number, words_of_bytes bytes fits))
words_of_command version liars small (command.Propose replica height) (number, fits) =
    (seen_word (codes "propose") refl, (IsWord-number_text replica number, (IsWord-number_text height fits, tt)))
words_of_command version liars small (command.End replica) number = (seen_word (codes "end") refl, (IsWord-number_text replica number, tt))
words_of_command version liars small (command.Pass from index to) (first, second, third) =
    (seen_word (codes "pass") refl, (IsWord-number_text from first, (IsWord-number_text index second, (IsWord-number_text to third, tt))))
words_of_command version liars small (command.Inject to bytes) (number, fits) =
    (seen_word (codes "inject") refl, (IsWord-number_text to number, words_of_hex bytes fits))
words_of_command version liars small (command.Execute replica)
    number = (seen_word (codes "execute") refl, (IsWord-number_text replica number, tt))
words_of_command version liars small (command.Query replica key) (number, fits, short) =
    (seen_word (codes "query") refl, (IsWord-number_text replica number, words_of_bytes key fits))
words_of_command version liars small (command.Retire replica floor) (number, fits) =
    (seen_word (codes "retire") refl, (IsWord-number_text replica number, (IsWord-number_text floor fits, tt)))
words_of_command version liars small (command.Info replica) number = (
  seen_word (codes "info")
      refl,
  (IsWord-number_text replica number, tt),
)
words_of_command version liars small command.Silent is = (seen_word (codes "silent") refl, tt)
words_of_command version liars small command.Round is = (seen_word (codes "round") refl, tt)
words_of_command version liars small (command.LieReport lie) is = (
  seen_word (codes "lie-report") refl,
  words_of_lie version liars lie
      small is,
)
words_of_command version liars small (command.LieLock lie) is = (seen_word (codes "lie-lock") refl, words_of_lie version liars lie small is)
words_of_command version liars small (command.LieStale lie source) (is, above, number) =
    (seen_word (codes "lie-stale") refl, words_of_stale version liars lie source small is number)
words_of_command version liars small (command.LieAck lie) is = (seen_word (codes "lie-ack") refl, words_of_lie version liars lie small is)
