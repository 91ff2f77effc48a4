-- The parts of a request, read one after the other.
use Rattle.std.proofs.Common.{◌≡◌, ℕ, ◌<◌, ◌≤◌, ◌^◌, List, ◌++◌, length, take, sym, ap, subst, ◌∙◌, inr, arith, take_all, length-append}
use Rattle.std.proofs.Common.{length-take-le}
use Rattle.std.specs.Prelude.{Option}
use Rattle.std.specs.Int.{w16, to_be_bytes, from_be_bytes}
use Rattle.std.specs.Io.KnownBytes.{Consumes}
use Rattle.std.proofs.KnownBytes.{Consumes-trans}
use Rattle.std.proofs.lemmas.List.{take-append-le}
use Rattle.ledger_model.specs.Sessions.{framed}
use Rattle.client_sessions.specs.declared.session_end.SessionEnd.TheVariants.{Cut}
use Rattle.client_sessions.specs.declared.receiving.Received.TheVariants.{Body}
use Rattle.client_sessions.specs.Reading.{Fills, ReadsFewer}
use Rattle.client_sessions.specs.Streams.{IsPartialRequest, IsBody, EndsBehind, ReadsPart, Receives}

-- the first bytes of two pieces are the first piece
front : (xs ys : List ℕ) (n : ℕ) → length xs ≡ n → take n (xs ++ ys) ≡ xs
front xs ys n long = take-append-le n xs ys (omega arith) ∙ take_all n xs (omega arith)

module _ (a b c : Option (List ℕ)) (prefix : List ℕ) (n : ℕ) (first : Fills a b prefix n) (two : length prefix ≡ 2) (full : 2 ≤ n)
    (len : ℕ) (says : len ≡ from_be_bytes w16 prefix) where
  -- the length was read
  prefix_read : Consumes a b prefix
  prefix_read = subst (Consumes a b) (take_all n prefix (omega arith)) first.read

  -- and then less than it says
  part : (bytes : List ℕ) → length bytes < len → IsPartialRequest (prefix ++ bytes)
  part bytes fewer = inr (omega (arith, fewer, length-append prefix bytes, says ∙ sym (ap (from_be_bytes w16) (front prefix bytes 2 two))))

  -- a fault came within the body
  pub broken_off : (most : ℕ) → ReadsFewer b c most → most ≡ len → ReadsPart a c
  broken_off most fewer same = record {
    rest = prefix ++ fewer.bytes;
    read =
        Consumes-trans a b c prefix fewer.bytes prefix_read fewer.read;
    part = part fewer.bytes (omega (arith, fewer.fewer, same));
  }

  -- the input ended there
  pub cut_off : (body : List ℕ) (m : ℕ) → Fills b c body m → length body ≡ len → m < len → EndsBehind a c Cut
  cut_off body m filled long fewer =
      let short : length (take m body) < len = omega (arith, fewer, length-take-le m body filled.within) in record {
        rest = prefix ++ take m body;
        read = Consumes-trans a b c prefix (take m body) prefix_read filled.read;
        stands = (omega (arith, two, length-append prefix (take m body)), part (take m body) short);
        at_end = filled.end (omega arith);
      }

  -- the body was read
  pub whole : (body rest : List ℕ) (m : ℕ) → to_be_bytes w16 len ≡ prefix → Fills b c body m → length body ≡ len → len ≤ m → len < 2 ^ 16
      → Receives a c (body ++ rest) (Body len)
  whole body rest m bytes filled long enough short =
      let taken : body ≡ take len (body ++ rest) = sym (front body rest len long) in
      let told : prefix ≡ to_be_bytes w16 (length body) = sym (ap (to_be_bytes w16) long ∙ bytes) in
      let read : Consumes a c (framed body) =
      subst (λ p. Consumes a c (p ++ body)) told
      (Consumes-trans a b c prefix body prefix_read (subst (Consumes b c) (take_all m body (omega arith)) filled.read)) in (
        omega (arith, long, length-append body rest),
        (subst IsBody taken (omega arith), subst (λ t. Consumes a c (framed t)) taken read),
      )
