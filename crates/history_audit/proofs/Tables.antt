-- What a table of statements has after more of them are put in.
use Rattle.std.proofs.Common.{◌≡◌, ℕ, ◌+◌, Bool, true, false, ◌&&◌, ◌||◌, cond, arith, inl, inr, List, [], ◌∷◌, ◌++◌, map, refl, sym, ap}
use Rattle.std.proofs.Common.{subst}
use Rattle.std.proofs.Common.{◌∙◌}
use Rattle.std.specs.Prelude.{nat_eq}
use Rattle.std.specs.Prelude.{Option, Some, None, Ok, Err, ◌%◌, ◌<◌}
use Rattle.std.specs.List.{list_any, filter_map, cons_option}
use Rattle.std.specs.Cmp.Lexicographic.{pointwise}
use Rattle.std.proofs.lemmas.List.Folds.{list_any-append}
use Rattle.std.proofs.lemmas.Bool.{and_parts, cases_Bool, eqb-true}
use Rattle.indexmap.specs.IndexSet.{insert_key}
use Rattle.ledger_model.proofs.Lists.{pointwise_equal}
use Rattle.ledger_model.specs.Values.{same_bytes}
use Rattle.ledger_model.specs.Pools.{is_among}
use Rattle.ledger_model.specs.Reading.{reading}
use Rattle.ledger_model.specs.Spelling.{statement_bytes}
use Rattle.ledger_model.specs.Rounds.{place_of, release_place}
use Rattle.ledger_model.specs.Audits.{sends, sent_from}
use Rattle.ledger_model.specs.Lawful.{is_opened}
use Rattle.ledger_model.specs.declared.history.Entry.{Entry}
use Rattle.ledger_model.specs.declared.reply.Reply.{Reply}
use Rattle.ledger_model.specs.declared.reply.Reply.TheVariants as reply
use Rattle.ledger_model.specs.declared.reply.Sent.{Sent}
use Rattle.ledger_model.specs.declared.statement.Statement.{Statement}
use Rattle.ledger_model.specs.declared.statement.SignedStatement.{SignedStatement}
use Rattle.std.proofs.Math.Bool.{or-false}
use Rattle.history_audit.specs.declared.sent_table.SentStatement.{SentStatement}
use Rattle.history_audit.specs.Tables.{sent_statement, same_sent, has_sent, Gains, statements_bytes, statements_of}

-- two that are the same are equal
pub same_sent-equal : (s u : SentStatement) → same_sent s u ≡ true → s ≡ u
same_sent-equal s u same =
    let parts = and_parts (nat_eq s.replica u.replica) (pointwise nat_eq s.statement u.statement) same in
    let r : s.replica ≡ u.replica = eqb-true s.replica u.replica (parts.0) in
    let b : s.statement ≡ u.statement = pointwise_equal nat_eq (λ x y e. eqb-true x y e) s.statement u.statement (parts.1) in
    subst (λ x. s ≡ sent_statement u.replica x) b (subst (λ x. s ≡ sent_statement x s.statement) r refl)

-- nothing more
pub gains_nothing : (table : List SentStatement) (r : ℕ) → Gains table r [] table
gains_nothing table r q bytes = both (has_sent table q bytes) (nat_eq q r)
  where
    both : (b e : Bool) → b ≡ (b || (e && false))
    both true e = refl
    both false true = refl
    both false false = refl

-- more, and then more again
pub gains_both : (old mid new : List SentStatement) (r : ℕ) (xs ys : List (List ℕ)) → Gains old r xs mid → Gains mid r ys new
    → Gains old r (xs ++ ys) new
gains_both old mid new r xs ys first second q bytes =
    second q bytes ∙ ap (λ b. b || (nat_eq q r && is_among ys bytes)) (first q bytes)
    ∙ regroup (has_sent old q bytes) (nat_eq q r) (is_among xs bytes) (is_among ys bytes)
    ∙ ap (λ b. has_sent old q bytes || (nat_eq q r && b)) (sym (list_any-append (same_bytes bytes) xs ys))
  where
    regroup : (o e x y : Bool) → ((o || (e && x)) || (e && y)) ≡ (o || (e && (x || y)))
    regroup true e x y = refl
    regroup false true true y = refl
    regroup false true false y = refl
    regroup false false x y = refl

-- a set with one more has that one, and what it had
pub gains_one : (table : List SentStatement) (r : ℕ) (statement : List ℕ)
    → Gains table r (statement ∷ []) (insert_key same_sent table (sent_statement r statement))
gains_one table r statement q bytes =
    elim (cases_Bool (list_any (same_sent (sent_statement r statement)) table)) [
      | inl there ↦ simp there (elim (cases_Bool (same_sent (sent_statement q bytes) (sent_statement r statement))) [
        | inl same ↦
            let is = same_sent-equal (sent_statement q bytes) (sent_statement r statement) same in
            let has : has_sent table q bytes ≡ true = ap (λ s. list_any (same_sent s) table) is ∙ there in
            has ∙ sym (ap (λ b. b || (nat_eq q r && is_among (statement ∷ []) bytes)) has)
        | inr other ↦ sym (ap (λ b. has_sent table q bytes || b) (no_more (nat_eq q r) (same_bytes bytes statement) other)
            ∙ or-false (has_sent table q bytes))
      ])
      | inr new ↦ simp new (list_any-append (same_sent (sent_statement q bytes)) table (sent_statement r statement ∷ [])
          ∙ ap (λ b. has_sent table q bytes || b) (one (nat_eq q r) (same_bytes bytes statement)))
    ]
  where
    no_more : (e b : Bool) → (e && b) ≡ false → (e && (b || false)) ≡ false
    no_more true true none = none
    no_more true false none = refl
    no_more false b none = refl

    one : (e b : Bool) → ((e && b) || false) ≡ (e && (b || false))
    one true true = refl
    one true false = refl
    one false b = refl

-- the statements of frames, one frame after the other
pub statements_of-cons : (sent : Sent) (frames : List Sent)
    → statements_bytes (statements_of (sent ∷ frames)) ≡ statements_bytes (statements_of (sent ∷ [])) ++ statements_bytes (statements_of frames)
statements_of-cons sent frames = by (reading sent.frame)
  where
    by : (o : Option SignedStatement) → statements_bytes (map (λ s. s.statement) (cons_option o (filter_map (λ f. reading f.frame) frames)))
        ≡ statements_bytes (map (λ s. s.statement) (cons_option o [])) ++ statements_bytes (statements_of frames)
    by None = refl
    by (Some s) = refl

-- the bytes of two lists of statements
pub bytes_of-append : (xs ys : List Statement) → statements_bytes (xs ++ ys) ≡ statements_bytes xs ++ statements_bytes ys
bytes_of-append [] ys = refl
bytes_of-append (x ∷ xs) ys = ap (λ bs. statement_bytes x ∷ bs) (bytes_of-append xs ys)

-- whole phases later, the place is the same
pub same_place : (c : ℕ) → place_of (c % 4 + 1) ≡ place_of (c + 1)
same_place c = grind (arith)

-- what a reply sends depends on the place alone
pub sends_later : (c : ℕ) (r : Reply) → sends (c % 4) r ≡ sends c r
sends_later c (reply.RoundEnded (Ok ended)) = ap (λ p. cond (nat_eq p release_place) [] (statements_of ended.frames)) (same_place c)
sends_later c (reply.RoundEnded (Err e)) = refl
sends_later c (reply.Submitted r) = refl
sends_later c (reply.Proposed r) = refl
sends_later c (reply.Delivered r) = refl
sends_later c (reply.Executed r) = refl
sends_later c (reply.Queried r) = refl
sends_later c (reply.Retired r) = refl

-- What the table gained so far, together with what it gains from the rest, is what it gains from all entries. The clock is that
-- before the rest, up to whole phases.
abbrev pub Reaches : List SentStatement → ℕ → List Entry → List SentStatement → ℕ → List Entry → Type 0
Reaches start r all table clock rest =
    (c : ℕ) × ((c % 4 ≡ clock)
    × ((final : List SentStatement) → Gains table r (statements_bytes (sent_from c rest)) final → Gains start r (statements_bytes (sent_from 0 all)) final))

-- nothing so far
pub reaches_first : (start : List SentStatement) (r : ℕ) (all : List Entry) → Reaches start r all start 0 all
reaches_first start r all = (0, (refl, λ final gains. gains))

-- one entry more
pub reaches_next : (start table next : List SentStatement) (r clock : ℕ) (all rest : List Entry) (e : Entry)
    → Reaches start r all table clock (e ∷ rest) → Gains table r (statements_bytes (sends clock e.reply)) next
    → Reaches start r all next (cond (is_opened e.reply) ((clock + 1) % 4) clock) rest
reaches_next start table next r clock all rest e reached gains =
    let c = reached.0 in
    let now : c % 4 ≡ clock = reached.1.0 in
    let same : sends clock e.reply ≡ sends c e.reply = ap (λ x. sends x e.reply) (sym now) ∙ sends_later c (e.reply) in
    let gained = subst (λ xs. Gains table r (statements_bytes xs) next) same gains in (
      cond (is_opened e.reply) (c + 1) c,
      (
        later (is_opened e.reply) c clock now,
        λ final more.
            reached.1.1 final (subst (λ bs. Gains table r bs final) (sym (bytes_of-append (sends c e.reply) _))
            (gains_both table next final r _ _ gained more)),
      ),
    )
  where
    later : (b : Bool) (c clock : ℕ) → c % 4 ≡ clock → cond b (c + 1) c % 4 ≡ cond b ((clock + 1) % 4) clock
    later true c clock is = one c clock is
      where
        one : (c clock : ℕ) → c % 4 ≡ clock → (c + 1) % 4 ≡ (clock + 1) % 4
        one c clock is = grind (arith)
    later false c clock is = is

-- no entry more
pub reaches_end : (start table : List SentStatement) (r clock : ℕ) (all : List Entry) → Reaches start r all table clock []
    → Gains start r (statements_bytes (sent_from 0 all)) table
reaches_end start table r clock all reached = reached.1.1 table (gains_nothing table r)

-- a rest after whole phases
pub in_a_phase : (n : ℕ) → n % 4 < 4
in_a_phase n = grind (arith)
