-- The digests that a register has are the transactions that it accepted.
use Rattle.std.proofs.Common.{◌≡◌, ℕ, ◌≤◌, Bool, true, false, List, [], ◌∷◌, ◌++◌, length, take, drop, refl, ap, subst, arith, take_all}
use Rattle.std.specs.Prelude.{◌==◌, not, is_some, Option, option_map, if◌then◌else◌}
use Rattle.std.specs.Int.{w32, w64, to_be_bytes}
use Rattle.std.specs.List.{flat_map}
use Rattle.std.proofs.lemmas.Bool.{eqb-true}
use Rattle.sha2.specs.Hashers.{Holds256}
use Rattle.sha2.specs.declared.Sha256.{Sha256}
use Rattle.ledger_model.specs.Meanings.{accepted_by}
use Rattle.app_states.specs.AppStates.{Checks, DeliversTx, HoldsUnder}
use Rattle.app_states.proofs.Accepted.{accepted-keeps}
use Rattle.app_states.proofs.Blocks.{AreBlocks, blocks-push, same_blocks}
use Rattle.app_states.proofs.States.{HasState}
use Rattle.app_states.proofs.States as state
use Rattle.notary_app.specs.Registers.{register_code, digest_number, register, register_bytes}

-- each has 32 bytes
abbrev pub AreDigests : List (List ℕ) → Type 0
AreDigests digests = AreBlocks 32 digests

-- a transaction of code 0 has 32 bytes
long-accepted : (done : List (List ℕ)) (tx : List ℕ) → register_code done tx ≡ 0 → length tx ≡ 32
long-accepted done tx zero_code = by (length tx == 32) refl zero_code
  where
    by : (b : Bool) → (length tx == 32) ≡ b → ◌≡◌ {A = ℕ} (if not b then 1 else if is_some (digest_number done tx) then 2 else 0) 0
        → length tx ≡ 32
    by true e c = eqb-true _ _ e
    by false e c = absurd (omega arith)

accepted-digests : (txs : List (List ℕ)) → AreDigests (accepted_by register [] txs)
unfolding register
accepted-digests txs =
    accepted-keeps register AreDigests (λ done tx all zero_code. blocks-push 32 done tx all (long-accepted done tx zero_code)) [] txs tt

-- the state is the list of accepted transactions, which its bytes show
has_digests : HasState (List (List ℕ)) (λ done. done) AreDigests register
unfolding register register_bytes
has_digests = record {
  bytes = register_bytes;
  code = register_code;
  check = register_code;
  held = λ digests key. option_map (to_be_bytes w32) (digest_number digests key);
  code_is = λ done tx. refl;
  check_is = λ done tx. refl;
  held_is = λ done key. refl;
  bytes_are = λ done. refl;
  shows = λ txs digests long same. same_blocks 32 (omega arith) digests _ long (accepted-digests txs) (ap (drop 9) same);
}

-- what the calls owe, given a register's digests
module _ (digests : List (List ℕ)) (long : AreDigests digests) where
  pub registers : (tx : List ℕ) → register_code digests tx ≡ 0 → DeliversTx register (register_bytes digests) tx 0 (register_bytes (digests ++ tx ∷ []))
  unfolding has_digests
  registers tx zero_code =
      state.delivers _ _ _ register has_digests digests long tx (digests ++ tx ∷ []) zero_code (λ done same. ap (λ ds. ds ++ tx ∷ []) same)

  pub refuses : (tx : List ℕ) (code : ℕ) → code ≡ register_code digests tx → (code == 0) ≡ false
      → DeliversTx register (register_bytes digests) tx code (register_bytes digests)
  unfolding has_digests
  refuses tx code is refused = state.refuses _ _ _ register has_digests digests long tx code is refused

  pub checks : (tx : List ℕ) (code : ℕ) → code ≡ register_code digests tx → Checks register (register_bytes digests) tx code
  unfolding has_digests
  checks tx code is = state.checks _ _ _ register has_digests digests long tx code is

  pub holds : (key : List ℕ) (value : Option (List ℕ)) → value ≡ option_map (to_be_bytes w32) (digest_number digests key)
      → HoldsUnder register (register_bytes digests) key value
  unfolding has_digests
  holds key value is = state.holds _ _ _ register has_digests digests long key value is

-- once all digests were hashed, the bytes of the register were
pub hashed : (hasher : Sha256) (items digests : List (List ℕ)) (i : ℕ) → items ≡ digests → length items ≤ i
    → Holds256 hasher (0x80 ∷ to_be_bytes w64 (length items) ++ flat_map (λ d. d) (take i items)) → Holds256 hasher (register_bytes digests)
unfolding register_bytes
hashed hasher items digests i same end holds =
    subst (λ ds. Holds256 hasher (0x80 ∷ to_be_bytes w64 (length ds) ++ flat_map (λ d. d) ds)) same
    (subst (λ ds. Holds256 hasher (0x80 ∷ to_be_bytes w64 (length items) ++ flat_map (λ d. d) ds)) (take_all i items end) holds)
