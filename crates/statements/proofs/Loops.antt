-- Reading n items of a kind one after the other, as a loop does.
use Rattle.std.proofs.Common.{◌≡◌, ℕ, zero, suc, ◌-◌, ◌+◌, ◌≤◌, ◌<◌, List, [], ◌∷◌, ◌++◌, Option, Some, None, refl, sym, ap, ◌∙◌}
use Rattle.std.proofs.Common.{append_assoc, arith}
use Rattle.std.proofs.lemmas.List.{append-nil}
use Rattle.ledger_model.specs.Reading.{◌>>=◌, tx_at, txs_at, value_at, values_at, signed_at, proof_at}
use Rattle.statements.specs.declared.fault.DecodeFault.{DecodeFault}
use Rattle.statements.specs.declared.fault.DecodeFault.TheVariants.{Malformed, NoMemory}
use Rattle.ledger_model.specs.declared.version.Version.{Version}
use Rattle.statements.specs.Reads.{IsFaultOf}

-- many reads a given number of what one reads
pub record ReadsMany {X : Type 0} (one : List ℕ → Option (X × List ℕ)) (many : ℕ → List ℕ → Option (List X × List ℕ)) : Type 0 where
  pub none : (bytes : List ℕ) → many zero bytes ≡ Some ([], bytes)
  pub more : (n : ℕ) (bytes : List ℕ)
      → many (suc n) bytes ≡ (one bytes >>= λ first. many n first.1 >>= λ rest. Some (first.0 ∷ rest.0, rest.1))

-- what was read before, and what is still read
abbrev pub with_front : {X : Type 0} → List X → Option (List X × List ℕ) → Option (List X × List ℕ)
with_front front read = read >>= λ x. Some (front ++ x.0, x.1)

regroup : {X : Type 0} (front : List X) (first : X) (read : Option (List X × List ℕ))
    → with_front front (read >>= λ x. Some (first ∷ x.0, x.1)) ≡ with_front (front ++ first ∷ []) read
regroup {X = X} front first (Some x) = ap (λ (xs : List X). Some (xs, x.1)) (simp append_assoc)
regroup front first None = refl

module _ {X : Type 0} (one : List ℕ → Option (X × List ℕ)) (many : ℕ → List ℕ → Option (List X × List ℕ)) (reads : ReadsMany one many) where
  -- one more was read
  pub goes_on : (front : List X) (count i : ℕ) (bytes : List ℕ) (first : X) (left : List ℕ) (total : Option (List X × List ℕ)) → i < count
      → one bytes ≡ Some (first, left)
      → with_front front (many (count - i) bytes) ≡ total → with_front (front ++ first ∷ []) (many (count - (i + 1)) left) ≡ total
  goes_on front count i bytes first left total lt h so_far =
      let k : count - i ≡ suc (count - (i + 1)) = omega arith in
      let step : with_front front (many (count - i) bytes) ≡ with_front (front ++ first ∷ []) (many (count - (i + 1)) left) =
      rw (k, reads.more, h) (regroup front first (many (count - (i + 1)) left)) in
      sym step ∙ so_far

  -- one more could not be read
  pub ends : (fault : DecodeFault) (front : List X) (count i : ℕ) (bytes : List ℕ) (total : Option (List X × List ℕ)) → i < count
      → IsFaultOf fault (one bytes)
      → with_front front (many (count - i) bytes) ≡ total → IsFaultOf fault total
  ends NoMemory front count i bytes total lt h so_far = tt
  ends Malformed front count i bytes total lt h so_far =
      let k : count - i ≡ suc (count - (i + 1)) = omega arith in
      let step : with_front front (many (count - i) bytes) ≡ None = rw (k, reads.more, h) refl in
      sym so_far ∙ step

  -- all were read
  pub is_done : (front : List X) (count i : ℕ) (bytes : List ℕ) (total : Option (List X × List ℕ)) → count ≤ i
      → with_front front (many (count - i) bytes) ≡ total → total ≡ Some (front, bytes)
  is_done front count i bytes total le so_far =
      let k : count - i ≡ 0 = omega arith in
      let step : with_front front (many (count - i) bytes) ≡ Some (front, bytes) =
      rw (k, reads.none) (ap (λ (xs : List X). Some (xs, bytes)) (append-nil front)) in
      sym so_far ∙ step

pub txs_reads : ReadsMany tx_at txs_at
unfolding txs_at
txs_reads = record { none = λ bytes. refl; more = λ n bytes. refl }

pub values_reads : (version : Version) → ReadsMany (value_at version) (values_at version)
unfolding values_at
values_reads version = record { none = λ bytes. refl; more = λ n bytes. refl }

pub proof_reads : (version : Version) → ReadsMany (signed_at version) (proof_at version)
unfolding proof_at
proof_reads version = record { none = λ bytes. refl; more = λ n bytes. refl }
