use Rattle.ledger_model.specs.Reading.{reading_in, body_reading}
use Rattle.signed_frames.proofs.parsing.body_at.Goals as goal
use Rattle.std.proofs.Common.{◌≡◌, ℕ, ◌≤◌, List, length, take, drop, arith, rules}
use Rattle.std.specs.Int.{w32, from_be_bytes}
use Rattle.ledger_model.specs.declared.version.Version.{Version}
use Rattle.ledger_model.proofs.Readers.{IsBytes-drop}

-- what follows a length that is its own is read as a body
own-length : (version : Version) (bytes rest : List ℕ) (len : ℕ) → 4 ≤ length bytes → len ≡ from_be_bytes w32 (take 4 bytes) → rest
    ≡ drop 4 bytes
    → length rest ≡ len → reading_in version bytes ≡ body_reading version rest
unfolding reading_in
own-length version bytes rest len long number behind whole = search rules

front : (c : goal.After-rest) → 4 ≤ length c.args.bytes.now
front c = search rules

whole : (c : goal.After-rest) → length c.rest.result.now ≡ c.in_ok-len.field-0
whole c = search rules

number : (c : goal.After-rest) → c.in_ok-len.field-0 ≡ from_be_bytes w32 (take 4 c.args.bytes.now)
number c = search rules

behind : (c : goal.After-rest) → c.rest.result.now ≡ drop 4 c.args.bytes.now
behind c = search rules

pub returns-clause-read : goal.returns-clause-read
returns-clause-read c = λ version. own-length version _ _ _ (front c) (number c) (behind c) (whole c)

pub returns-clause-bytes : goal.returns-clause-bytes
returns-clause-bytes c = rw (behind c) (IsBytes-drop 4 c.args.bytes.now (λ i. omega (arith, c.type_inv.bytes i)))
