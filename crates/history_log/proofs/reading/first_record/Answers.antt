use Rattle.std.proofs.Common.{◌≡◌, ◌<◌, ◌≤◌, true, false, inl, inr, ℕ, length, drop, take, ap, sym, subst, refl, ◌∙◌, length-drop, arith}
use Rattle.std.proofs.lemmas.Bool.{cases_lt, false≢true}
use Rattle.history_log.specs.Records.{announced_len, HasTagAt}
use Rattle.history_log.proofs.RecordParts.{parts_of, tagged, record_found, tag_read}
use Rattle.history_log.proofs.reading.first_record.Goals as goal

-- what a call that didn't fail says of the number of bytes
not_less : (m n : ℕ) → (m < n → false ≡ true) → n ≤ m
not_less m n h = elim (cases_lt m n) [ inl lt ↦ absurd (false≢true (h lt)) | inr le ↦ le ]

pub returns-in_default-clause-none : goal.returns-in_default-clause-none
returns-in_default-clause-none c = λ content rest begins.
    let p = parts_of c.args.tag c.args.bytes.now content rest begins in
    omega (arith, p.len, c.in_default.ensures.short.0 refl, ap length c.new-cursor.ensures)

pub returns-then-len-gt-MAX_CONTENT_LEN-clause-none :
    goal.returns-then-len-gt-MAX_CONTENT_LEN-clause-none
returns-then-len-gt-MAX_CONTENT_LEN-clause-none c = λ content rest begins.
    let p = parts_of c.args.tag c.args.bytes.now content rest begins in
    let n : c.in-Ok.announced ≡ length content = c.in-Ok.ensures.ok ∙ ap announced_len c.new-cursor.ensures ∙ p.announced in
    omega (arith, n, p.few, c.if-len-gt-MAX_CONTENT_LEN.true)

pub returns-in_default-take_bytes-clause-none : goal.returns-in_default-take_bytes-clause-none
returns-in_default-take_bytes-clause-none c = λ content rest begins.
    let p = parts_of c.args.tag c.args.bytes.now content rest begins in
    let n : c.in-Ok.announced ≡ length content = c.in-Ok.ensures.ok ∙ ap announced_len c.new-cursor.ensures ∙ p.announced in
    let body : length c.take_u32.new.self ≡ length (drop 4 c.args.bytes.now) =
    ap length (c.in-Ok.ensures.rest ∙ ap (drop 4) c.new-cursor.ensures) in
    omega (arith, n, p.len, body, length-drop 4 c.args.bytes.now, c.in_default-take_bytes.ensures.short.0 refl)

pub returns-in_default-take_bytes-2-clause-none : goal.returns-in_default-take_bytes-2-clause-none
returns-in_default-take_bytes-2-clause-none c = λ content rest begins.
    let p = parts_of c.args.tag c.args.bytes.now content rest begins in
    let n : c.in-Ok.announced ≡ length content = c.in-Ok.ensures.ok ∙ ap announced_len c.new-cursor.ensures ∙ p.announced in
    let body : length c.take_u32.new.self ≡ length (drop 4 c.args.bytes.now) =
    ap length (c.in-Ok.ensures.rest ∙ ap (drop 4) c.new-cursor.ensures) in
    let tail : length c.take_bytes.new.self ≡ length (drop c.in-Ok.announced c.take_u32.new.self) =
    ap length c.in-Ok-take_bytes.ensures.rest in
    omega (
      arith,
      n,
      p.len,
      body,
      length-drop 4 c.args.bytes.now,
      tail,
      length-drop c.in-Ok.announced c.take_u32.new.self,
      c.in_default-take_bytes-2.ensures.short.0 refl,
    )

pub returns-then-not-matches-clause-none : goal.returns-then-not-matches-clause-none
returns-then-not-matches-clause-none c = λ content rest begins.
    let p = parts_of c.args.tag c.args.bytes.now content rest begins in
    let n : c.in-Ok.announced ≡ length content = c.in-Ok.ensures.ok ∙ ap announced_len c.new-cursor.ensures ∙ p.announced in
    let has : HasTagAt c.args.tag (drop 4 c.args.bytes.now) c.in-Ok.announced =
    subst (HasTagAt c.args.tag (drop 4 c.args.bytes.now)) (sym n) (tagged c.args.tag c.args.bytes.now content rest p) in
    let read = tag_read c.args.tag c.args.bytes.now c.in-Ok.announced c.new-cursor.result c.take_u32.new.self c.take_bytes.new.self
    c.in-Ok-take_bytes-2.written.now c.in-Ok-take_bytes.content.now c.after-next.result c.new-cursor.ensures c.in-Ok.ensures.rest
    c.in-Ok-take_bytes.ensures.ok c.in-Ok-take_bytes.ensures.rest c.in-Ok-take_bytes-2.ensures.ok c.after-next.ensures in
    false≢true (sym c.if-not-matches.true ∙ c.matches.ensures.1 (read.1 has))

pub returns-clause-found : goal.returns-clause-found
returns-clause-found c =
    let read = tag_read c.args.tag c.args.bytes.now c.in-Ok.announced c.new-cursor.result c.take_u32.new.self c.take_bytes.new.self
    c.in-Ok-take_bytes-2.written.now c.in-Ok-take_bytes.content.now c.after-next.result c.new-cursor.ensures c.in-Ok.ensures.rest
    c.in-Ok-take_bytes.ensures.ok c.in-Ok-take_bytes.ensures.rest c.in-Ok-take_bytes-2.ensures.ok c.after-next.ensures in
    let body : c.take_u32.new.self ≡ drop 4 c.args.bytes.now = c.in-Ok.ensures.rest ∙ ap (drop 4) c.new-cursor.ensures in
    let tail : c.take_bytes.new.self ≡ drop c.in-Ok.announced (drop 4 c.args.bytes.now) =
    c.in-Ok-take_bytes.ensures.rest ∙ ap (drop c.in-Ok.announced) body in
    let content_is : c.in-Ok-take_bytes.content.now ≡ take c.in-Ok.announced (drop 4 c.args.bytes.now) =
    c.in-Ok-take_bytes.ensures.ok ∙ ap (take c.in-Ok.announced) body in
    let rest_is : c.rest.result.now ≡ drop 16 (drop c.in-Ok.announced (drop 4 c.args.bytes.now)) =
    c.rest.ensures ∙ c.in-Ok-take_bytes-2.ensures.rest ∙ ap (drop 16) tail in
    let long : 4 ≤ length c.new-cursor.result = not_less (length c.new-cursor.result) 4 c.in-Ok.ensures.short.1 in
    let enough : c.in-Ok.announced ≤ length c.take_u32.new.self = not_less (length c.take_u32.new.self) c.in-Ok.announced c.in-Ok-take_bytes.ensures.short.1 in
    let room : 16 ≤ length c.take_bytes.new.self = not_less (length c.take_bytes.new.self) 16 c.in-Ok-take_bytes-2.ensures.short.1 in
    rw (content_is, rest_is) (record_found c.args.tag c.args.bytes.now c.in-Ok.announced (λ i. omega (arith, c.type_inv.bytes i))
    (omega (arith, long, ap length c.new-cursor.ensures)) (c.in-Ok.ensures.ok ∙ ap announced_len c.new-cursor.ensures)
    c.if-len-gt-MAX_CONTENT_LEN.false (omega (arith, enough, ap length body)) (omega (arith, room, ap length tail))
    (read.0 (c.matches.ensures.0 c.if-not-matches.false)))

pub returns-clause-shorter : goal.returns-clause-shorter
returns-clause-shorter c =
    let body = c.in-Ok.ensures.rest in
    let tail = c.in-Ok-take_bytes.ensures.rest in
    let last : c.rest.result.now ≡ drop 16 c.take_bytes.new.self = c.rest.ensures ∙ c.in-Ok-take_bytes-2.ensures.rest in
    let long : 4 ≤ length c.new-cursor.result = not_less (length c.new-cursor.result) 4 c.in-Ok.ensures.short.1 in
    omega (
      arith,
      long,
      ap length c.new-cursor.ensures,
      ap length body,
      length-drop 4 c.new-cursor.result,
      ap length tail,
      length-drop c.in-Ok.announced c.take_u32.new.self,
      ap length last,
      length-drop 16 c.take_bytes.new.self,
    )
