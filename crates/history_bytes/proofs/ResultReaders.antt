-- What a success brings is read back from its encoding: frames that were sent, blocks and answers.
use Rattle.std.proofs.Common.{◌≡◌, ℕ, ◌<◌, ◌^◌, ◌≢◌, Bool, true, false, cond, List, [], ◌∷◌, ◌++◌, length, Option, Some, None}
use Rattle.std.proofs.Common.{refl}
use Rattle.std.proofs.Common.{sym, ap, subst, ◌∙◌, append_assoc, arith, eqb}
use Rattle.std.specs.List.{flat_map, AllByRecursion}
use Rattle.std.specs.Int.{w32, to_be_bytes}
use Rattle.std.proofs.lemmas.Bool.{eqb-true, eqb-false, ne_eqb}
use Rattle.ledger_model.specs.declared.reply.Addressee.{Addressee}
use Rattle.ledger_model.specs.declared.reply.Addressee.TheVariants as addressee
use Rattle.ledger_model.specs.declared.reply.BlockResult.{BlockResult}
use Rattle.ledger_model.specs.declared.reply.QueryAnswer.{QueryAnswer}
use Rattle.ledger_model.specs.declared.reply.RoundEnded.{RoundEnded}
use Rattle.ledger_model.specs.declared.reply.Sent.{Sent}
use Rattle.ledger_model.specs.declared.version.Version.{Version}
use Rattle.ledger_model.specs.Values.{IsByte}
use Rattle.ledger_model.specs.GrammarLaws.{IsBytes}
use Rattle.ledger_model.specs.Reading.{◌>>=◌, byte_at, bytes_at}
use Rattle.ledger_model.proofs.Readers.{some_is, IsReader, bytes_take, bytes_again, each_byte}
use Rattle.ledger_model.proofs.StatementReading.{flag_bytes, flag_reader}
use Rattle.history_bytes.specs.Histories.{addressee_number, sent_bytes, present_bytes, ended_bytes, block_bytes, answer_bytes}
use Rattle.history_bytes.specs.Histories.{count_in_1, count_in_2}
use Rattle.history_bytes.specs.HistorySpelling.{IsWord, IsAddressee, IsSentFrame, IsEndedRound, IsBlock, IsPresent, IsAnswer}
use Rattle.history_bytes.specs.HistoryReading.{short_at, addressee_by_number, sent_at, frames_of, frames_at, ended_at, codes_of, codes_at}
use Rattle.history_bytes.specs.HistoryReading.{block_result_at}
use Rattle.history_bytes.specs.HistoryReading.{present_at, answer_at}
use Rattle.history_bytes.specs.HistoryReading.{frame_at}
use Rattle.history_bytes.proofs.Combined.{taken, same_reader, pair_reader, IsSizedReader, many_reader, counted_reader}
use Rattle.history_bytes.proofs.FieldReaders.{byte_reader, word_reader, count_1_reader, count_2_reader, same_bytes, short_bytes}
use Rattle.history_bytes.proofs.FieldReaders.{short_reader}
use Rattle.history_bytes.proofs.FieldReaders.{frame_reader}

-- ---- frames that were sent

-- an addressee's number
one_addressee : Addressee → List ℕ
one_addressee a = addressee_number a ∷ []

addressee_at : List ℕ → Option (Addressee × List ℕ)
addressee_at bytes = byte_at bytes >>= λ to. Some (addressee_by_number to.0, to.1)

number_back : (n : ℕ) → n < 256 → (addressee_number (addressee_by_number n) ≡ n) × IsAddressee (addressee_by_number n)
number_back n lt = at (eqb n 255) refl
  where
    at : (b : Bool) → eqb n 255 ≡ b → (addressee_number (addressee_by_number n) ≡ n) × IsAddressee (addressee_by_number n)
    at true e = rw e (sym (eqb-true n 255 e), tt)
    at false e = let other : n ≢ 255 = eqb-false n 255 e in rw e (refl, omega arith)

addressee_back : (a : Addressee) → IsAddressee a → addressee_by_number (addressee_number a) ≡ a
addressee_back addressee.All is = refl
addressee_back (addressee.One r) is = let other : eqb r 255 ≡ false = ne_eqb r 255 (λ e. omega (arith, e, is)) in rw other refl

sent_reader : (version : Version) → IsReader sent_bytes (IsSentFrame version) (sent_at version)
unfolding sent_at
sent_reader version = record {
  takes = λ bytes sent rest fits e.
      taken byte_reader bytes (λ to. frame_at version to.1 >>= λ frame. Some
      (record { addressee = addressee_by_number to.0; frame = frame.0 }, frame.1))
      (sent, rest) fits e
      (λ to more t_parts t_is t_fits f. taken (frame_reader version) more
      (λ frame. Some (record { addressee = addressee_by_number to; frame = frame.0 }, frame.1)) (sent, rest) t_fits f
      (λ frame last f_parts f_is f_fits g.
      let made : Sent × List ℕ = (record { addressee = addressee_by_number to; frame = frame }, last) in
      let back = number_back to t_is in
      subst (λ (p : Sent × List ℕ). (bytes ≡ sent_bytes p.0 ++ p.1) × IsSentFrame version p.0 × IsBytes p.1) (some_is made (sent, rest) g) (
        t_parts ∙ ap (λ (k : ℕ). k ∷ more) (sym back.0) ∙ ap (λ (t : List ℕ). addressee_number (addressee_by_number to) ∷ t) f_parts,
        record { addressee = back.1; frame = f_is },
        f_fits,
      )));
  again = λ sent rest is.
      rw ((frame_reader version).again sent.frame rest is.frame, addressee_back sent.addressee is.addressee) refl;
}

frames_of_reader : (version : Version) → IsSizedReader (flat_map sent_bytes) (AllByRecursion (IsSentFrame version)) length
    (frames_of version)
unfolding frames_of
frames_of_reader version = many_reader (sent_reader version) (frames_of version) (λ bytes. refl) (λ n bytes. refl)

abbrev frames_bytes : List Sent → List ℕ
frames_bytes frames = count_in_2 (length frames) ++ flat_map sent_bytes frames

abbrev AreFrames : Version → List Sent → Type 0
AreFrames version frames = (length frames < 2 ^ 16) × AllByRecursion (IsSentFrame version) frames

frames_reader : (version : Version) → IsReader frames_bytes (AreFrames version) (frames_at version)
unfolding frames_at
frames_reader version = counted_reader count_2_reader (frames_of_reader version)

-- a round's end of its parts
abbrev ended_of : Bool → List Sent → RoundEnded
ended_of mute frames = record { mute = mute; frames = frames }

pub ended_reader : (version : Version) → IsReader ended_bytes (IsEndedRound version) (ended_at version)
unfolding ended_at
ended_reader version = same_reader (pair_reader flag_reader (frames_reader version) ended_of (λ x. x.mute) (λ x. x.frames) (λ x. refl)
    (λ a b. refl)
    (λ a b. refl))
    ended_bytes (IsEndedRound version) (λ x. sym (append_assoc (flag_bytes x.mute) (count_in_2 (length x.frames))
    (flat_map sent_bytes x.frames)))
    (λ x is. record { few = is.1.0; each = is.1.1 }) (λ x is. (tt, (is.few, is.each)))

-- ---- blocks and answers

codes_of_reader : IsSizedReader (flat_map (to_be_bytes w32)) (AllByRecursion IsWord) length codes_of
unfolding codes_of
codes_of_reader = many_reader word_reader codes_of (λ bytes. refl) (λ n bytes. refl)

abbrev codes_bytes : List ℕ → List ℕ
codes_bytes codes = count_in_1 (length codes) ++ flat_map (to_be_bytes w32) codes

abbrev AreCodes : List ℕ → Type 0
AreCodes codes = (length codes < 2 ^ 8) × AllByRecursion IsWord codes

codes_reader : IsReader codes_bytes AreCodes codes_at
unfolding codes_at
codes_reader = counted_reader count_1_reader codes_of_reader

-- a hash
abbrev IsHash : List ℕ → Type 0
IsHash hash = (length hash ≡ 32) × AllByRecursion IsByte hash

hash_reader : IsReader same_bytes IsHash (bytes_at 32)
hash_reader = record {
  takes = λ bytes hash rest fits e. let t = bytes_take 32 bytes hash rest fits e in (t.0, (t.3, each_byte hash t.1), t.2);
  again = λ hash rest is. subst (λ (n : ℕ). bytes_at n (hash ++ rest) ≡ Some (hash, rest)) is.0 (bytes_again hash rest);
}

block_regroup : (height codes hash rest : List ℕ) → height ++ (codes ++ (hash ++ rest)) ≡ (height ++ codes ++ hash) ++ rest
block_regroup height codes hash rest = simp append_assoc

pub block_reader : IsReader block_bytes IsBlock block_result_at
unfolding block_result_at
block_reader = record {
  takes = λ bytes block rest fits e.
      taken word_reader bytes
      (λ height. codes_at height.1 >>= λ codes. bytes_at 32 codes.1 >>= λ hash. Some
      (record { height = height.0; codes = codes.0; hash = hash.0 }, hash.1)) (block, rest) fits e
      (λ height more h_parts h_is h_fits f. taken codes_reader more
      (λ codes. bytes_at 32 codes.1 >>= λ hash. Some (record { height = height; codes = codes.0; hash = hash.0 }, hash.1))
      (block, rest) h_fits f
      (λ codes others c_parts c_is c_fits g. taken hash_reader others
      (λ hash. Some (record { height = height; codes = codes; hash = hash.0 }, hash.1)) (block, rest) c_fits g
      (λ hash last k_parts k_is k_fits h.
      let made : BlockResult × List ℕ = (record { height = height; codes = codes; hash = hash }, last) in
      subst (λ (p : BlockResult × List ℕ). (bytes ≡ block_bytes p.0 ++ p.1) × IsBlock p.0 × IsBytes p.1) (some_is made (block, rest) h) (
        h_parts ∙ ap (λ (t : List ℕ). to_be_bytes w32 height ++ t) (c_parts ∙ ap (λ (t : List ℕ). codes_bytes codes ++ t) k_parts)
            ∙ simp append_assoc,
        record { height = h_is; few = c_is.0; each = c_is.1; hash_len = k_is.0; hash = k_is.1 },
        k_fits,
      ))));
  again = λ block rest is.
      let regrouped : block_bytes block ++ rest ≡ to_be_bytes w32 block.height ++ (codes_bytes block.codes ++ (block.hash ++ rest)) =
      simp append_assoc in
      ap block_result_at regrouped
      ∙ rw (
        word_reader.again block.height (codes_bytes block.codes ++ (block.hash ++ rest)) is.height,
        codes_reader.again block.codes (block.hash ++ rest) (is.few, is.each),
        hash_reader.again block.hash rest (is.hash_len, is.hash),
      ) refl;
}

present_reader : IsReader present_bytes IsPresent present_at
unfolding present_at
present_reader = record { takes = takes; again = again }
  where
    some_of : List ℕ × List ℕ → Option (Option (List ℕ) × List ℕ)
    some_of v = Some (Some v.0, v.1)

    after : (flag : Bool) (more : List ℕ) (value : Option (List ℕ)) (rest : List ℕ) → IsBytes more
        → cond flag (short_at more >>= some_of) (Some (None, more)) ≡ Some (value, rest)
        → ((cond flag 1 0 ∷ more) ≡ present_bytes value ++ rest) × IsPresent value × IsBytes rest
    after true more value rest fits e =
        taken short_reader more some_of (value, rest) fits e
        (λ v last parts is v_fits f.
        let made : Option (List ℕ) × List ℕ = (Some v, last) in
        subst (λ (p : Option (List ℕ) × List ℕ). (1 ∷ more ≡ present_bytes p.0 ++ p.1) × IsPresent p.0 × IsBytes p.1)
        (some_is made (value, rest) f) (ap (λ (t : List ℕ). 1 ∷ t) parts, is, v_fits))
    after false more value rest fits e =
        let made : Option (List ℕ) × List ℕ = (None, more) in
        subst (λ (p : Option (List ℕ) × List ℕ). (0 ∷ more ≡ present_bytes p.0 ++ p.1) × IsPresent p.0 × IsBytes p.1)
        (some_is made (value, rest) e) (refl, tt, fits)

    takes : (bytes : List ℕ) (value : Option (List ℕ)) (rest : List ℕ) → IsBytes bytes → present_at bytes ≡ Some (value, rest)
        → (bytes ≡ present_bytes value ++ rest) × IsPresent value × IsBytes rest
    takes bytes value rest fits e =
        taken flag_reader bytes
        (λ flag. cond flag.0 (short_at flag.1 >>= some_of) (Some (None, flag.1))) (value, rest) fits e
        (λ flag more parts is f_fits f. let a = after flag more value rest f_fits f in (parts ∙ a.0, a.1, a.2))

    again : (value : Option (List ℕ)) (rest : List ℕ) → IsPresent value → present_at (present_bytes value ++ rest) ≡ Some (value, rest)
    again None rest is = rw (flag_reader.again false rest tt) refl
    again (Some v) rest is =
        rw (flag_reader.again true (short_bytes v ++ rest) tt, short_reader.again v rest is) refl

abbrev answer_of : ℕ → Option (List ℕ) → QueryAnswer
answer_of height value = record { height = height; value = value }

pub answer_reader : IsReader answer_bytes IsAnswer answer_at
unfolding answer_at
answer_reader = same_reader (pair_reader word_reader present_reader answer_of (λ x. x.height) (λ x. x.value) (λ x. refl) (λ a b. refl)
    (λ a b. refl)) answer_bytes IsAnswer (λ x. refl)
    (λ x is. record { height = is.0; value = is.1 }) (λ x is. (is.height, is.value))
