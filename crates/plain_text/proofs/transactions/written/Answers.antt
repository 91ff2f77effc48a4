use Rattle.std.proofs.Common.{inr, ◌≡◌, ℕ, true, false, List, [], ◌∷◌, ◌++◌, length, ap, subst, sym, ◌∙◌, rules}
use Rattle.std.specs.Prelude.{◌==◌, Some, None}
use Rattle.std.proofs.lemmas.Bool.{eqb-true}
use Rattle.std.proofs.lemmas.List.{append-nil, nil_from_length}
use Rattle.plain_text.specs.Transactions.{Misspells, ReadsTo, StandsFor, first_spelled_byte}
use Rattle.plain_text.proofs.TransactionLemmas.{reads_on, reads_to, stands_on, stands_no_more}
use Rattle.plain_text.proofs.transactions.written.Goals as goal

pub returns-clause-some : goal.returns-clause-some
returns-clause-some c =
    let is : c.is_empty.result ≡ true = search rules in
    let none : length c.loop-rest.rest.now ≡ 0 = eqb-true (length c.loop-rest.rest.now) 0 (sym c.is_empty.ensures ∙ is) in
    subst (StandsFor c.args.text.now) (append-nil c.loop-rest.bytes.items)
    (c.loop-rest.invariant.0 [] (nil_from_length c.loop-rest.rest.now none))

pub returns-in_default-clause-none : goal.returns-in_default-clause-none
returns-in_default-clause-none c = λ bytes stands.
    let none : first_spelled_byte c.loop-rest.rest.now ≡ None = search rules in
    let full : c.is_empty.result ≡ false = search rules in
    let more = c.loop-rest.invariant.1.0 bytes stands in
    absurd (stands_no_more c.loop-rest.rest.now none
    (λ e. let bad : false ≡ true = sym full ∙ c.is_empty.ensures ∙ ap (λ (r : List ℕ). length r == 0) e in absurd cc)
    more.0 more.1)

pub returns-in_default-clause-told : goal.returns-in_default-clause-told
returns-in_default-clause-told c =
    let none : first_spelled_byte c.loop-rest.rest.now ≡ None = search rules in
    let full : c.is_empty.result ≡ false = search rules in
    let told : Misspells c.args.text.now c.fault_at.result = record {
      read = c.loop-rest.bytes.items;
      rest = c.loop-rest.rest.now;
      reads = c.loop-rest.invariant.1.1;
      stops = none;
      some = λ e. let bad : false ≡ true = sym full ∙ c.is_empty.ensures ∙ ap (λ (r : List ℕ). length r == 0) e in absurd cc;
      told = c.fault_at.ensures;
    } in
    inr told

pub loop-rest-preserved : goal.loop-rest-preserved
loop-rest-preserved c =
    let first : first_spelled_byte c.loop-rest.rest.now ≡ Some (c.in-Some.byte, c.in-Some.after.now) = search rules in
    let grown : c.push.new.self.items ≡ c.loop-rest.bytes.items ++ c.in-Some.byte ∷ [] = search rules in (
      λ more stands. subst (λ (read : List ℕ). StandsFor c.args.text.now (read ++ more)) (sym grown)
          (reads_on c.args.text.now c.loop-rest.rest.now c.in-Some.after.now c.loop-rest.bytes.items c.in-Some.byte first
          c.loop-rest.invariant.0 more stands),
      (
        λ bytes stands. let more = c.loop-rest.invariant.1.0 bytes stands
            in stands_on c.loop-rest.rest.now c.in-Some.after.now c.in-Some.byte first more.0 more.1,
        subst (λ (read : List ℕ). ReadsTo c.args.text.now read c.in-Some.after.now) (sym grown)
            (reads_to c.args.text.now c.loop-rest.bytes.items c.loop-rest.rest.now c.in-Some.after.now c.in-Some.byte
            c.loop-rest.invariant.1.1 first),
      ),
    )
