-- The statements that are due, signed one after the other.
use Rattle.std.proofs.Common.{◌≡◌, ℕ, ◌+◌, ◌≤◌, List, [], ◌∷◌, ◌++◌, map, refl, sym, ap, subst, ◌∙◌, arith}
use Rattle.std.specs.Prelude.{Bool, true, false, is_some, count_by, if◌then◌else◌}
use Rattle.std.specs.List.{AllByRecursion}
use Rattle.std.proofs.lemmas.List.{append_assoc, map-append}
use Rattle.std.proofs.lemmas.List.Recursion.{is_count_by}
use Rattle.lms_tree.specs.Trees.{Secret}
use Rattle.key_ring.specs.Signers.{SignerView, leaves_of, public_key_of}
use Rattle.instance.specs.declared.round_statement.RoundStatement.{RoundStatement}
use Rattle.instance.specs.declared.round_statement.RoundStatement.TheVariants as made
use Rattle.instance.specs.declared.round_plan.RoundPlan.{RoundPlan}
use Rattle.instance.specs.Instances.{InstanceView}
use Rattle.instance.specs.Laws.{IsFrameMade}
use Rattle.height_row.specs.declared.round_closing.RoundClosing.{RoundClosing}
use Rattle.height_row.specs.Heights.{height_plan}
use Rattle.replica_core.specs.RoundEnds.{due, SignsFrom}
use Rattle.replica_core.specs.Signing.{planned_count, due_in, SignsPlans}
use Rattle.replica_core.specs.ChosenEnds.{IsVerifiedMade}
use Rattle.ledger_model.proofs.Lists.{each_append}

-- ---- the plans of open heights

-- as many are due as the heights choose to send
pub due_in-plans : (c : ℕ) (rows : List InstanceView) → due_in (map (height_plan c) rows) ≡ due c rows
due_in-plans c [] = refl
due_in-plans c (row ∷ rows) = ap (λ n. planned_count (height_plan c row) + n) (due_in-plans c rows)

-- what signs the plans is what the heights choose, signed
pub signs_from : (secret : Secret) (leaf c : ℕ) (rows : List InstanceView) (ms : List RoundStatement)
    → SignsPlans secret leaf (map (height_plan c) rows) ms → SignsFrom secret leaf c rows ms
signs_from secret leaf c [] [] all = tt
signs_from secret leaf c [] (m ∷ ms) all = all
signs_from secret leaf c (row ∷ rows) [] all = all
signs_from secret leaf c (row ∷ rows) (made.Mute ∷ ms) all = all
signs_from secret leaf c (row ∷ rows) (made.Unsent ∷ ms) all = (all.0, signs_from secret leaf c rows ms all.1)
signs_from secret leaf c (row ∷ rows) (made.Sent f ∷ ms) all = (all.0, all.1, signs_from secret (leaf + 1) c rows ms all.2)

-- they are counted
pub due_in-count : (plans : List RoundPlan) → due_in plans ≡ count_by (λ plan. is_some plan.statement) plans
due_in-count plans = is_count_by due_in (λ plan. is_some plan.statement) refl (λ plan more. if_plus (is_some plan.statement) (due_in more))
    plans
  where
    if_plus : (b : Bool) (n : ℕ) → (if b then 1 else 0) + n ≡ (if b then 1 + n else n)
    if_plus true n = refl
    if_plus false n = omega arith

-- ---- one more

-- one more plan adds what it has
pub due_in-snoc : (plans : List RoundPlan) (plan : RoundPlan) → due_in (plans ++ plan ∷ []) ≡ due_in plans + planned_count plan
due_in-snoc [] plan = omega arith
due_in-snoc (q ∷ plans) plan = (let rest = due_in-snoc plans plan in omega (arith, rest))

-- two lists of plans have what both have
pub due_in-append : (plans others : List RoundPlan) → due_in (plans ++ others) ≡ due_in plans + due_in others
due_in-append [] others = omega arith
due_in-append (q ∷ plans) others = (let rest = due_in-append plans others in omega (arith, rest))

-- one more signs with the next leaf
pub signs_more : (secret : Secret) (leaf : ℕ) (plans : List RoundPlan) (ms : List RoundStatement) (plan : RoundPlan) (m : RoundStatement)
    → SignsPlans secret leaf plans ms
    → SignsPlans secret (leaf + due_in plans) (plan ∷ []) (m ∷ []) → SignsPlans secret leaf (plans ++ plan ∷ []) (ms ++ m ∷ [])
signs_more secret leaf [] [] plan m all one =
    (let same : leaf + 0 ≡ leaf = omega arith in subst (λ n. SignsPlans secret n (plan ∷ []) (m ∷ [])) same one)
signs_more secret leaf [] (x ∷ ms) plan m all one = absurd all
signs_more secret leaf (q ∷ plans) [] plan m all one = absurd all
signs_more secret leaf (q ∷ plans) (made.Mute ∷ ms) plan m all one = absurd all
signs_more secret leaf (q ∷ plans) (made.Unsent ∷ ms) plan m all one =
    let same : leaf + due_in (q ∷ plans) ≡ leaf + due_in plans = rw all.0 (omega arith) in
    (all.0, signs_more secret leaf plans ms plan m all.1 (subst (λ n. SignsPlans secret n (plan ∷ []) (m ∷ [])) same one))
signs_more secret leaf (q ∷ plans) (made.Sent f ∷ ms) plan m all one =
    let same : leaf + due_in (q ∷ plans) ≡ (leaf + 1) + due_in plans = rw all.0 (omega arith) in
    (all.0, all.1, signs_more secret (leaf + 1) plans ms plan m all.2 (subst (λ n. SignsPlans secret n (plan ∷ []) (m ∷ [])) same one))

-- ---- so far

-- these plans are signed, of all that are to be, and what is done by them is this
pub record IsSigning (old : SignerView) (plans signed left : List RoundPlan) (closings : List RoundClosing) (new : SignerView) : Type 0
  where
    pub all : signed ++ left ≡ plans
    pub endings : map (λ c. c.ending) closings ≡ map (λ plan. plan.ending) signed
    pub signs : SignsPlans old.secret old.used signed (map (λ c. c.made) closings)
    pub verified : AllByRecursion (λ c. IsVerifiedMade (public_key_of old.secret) c.made) closings
    pub frames : AllByRecursion (λ c. IsFrameMade c.made) closings
    pub used : new ≡ record old { used = old.used + due_in signed }

-- what holds of each and of one more holds of all
module _ {old : SignerView} {plans signed left : List RoundPlan} {closings : List RoundClosing} {new : SignerView} {plan : RoundPlan}
    (so_far : IsSigning old plans signed (plan ∷ left) closings new) where
  -- the leaf of the next is there
  pub leaf_there : old.used + due_in plans ≤ leaves_of old.secret → new.used + planned_count plan ≤ leaves_of new.secret
  leaf_there leaves =
      let all = ap due_in (sym so_far.all) ∙ due_in-append signed (plan ∷ left) in
      let used = ap (λ k. k.used) so_far.used in
      rw (ap (λ k. k.secret) so_far.used) (omega (arith, all, used, leaves))

  -- with it no more are used than are due
  pub most_next : {newer : SignerView} → newer ≡ record new { used = new.used + planned_count plan } → newer.used ≤ old.used + due_in plans
  most_next next =
      let all = ap due_in (sym so_far.all) ∙ due_in-append signed (plan ∷ left) in
      let used = ap (λ k. k.used) so_far.used in
      let more = ap (λ k. k.used) next in
      omega (arith, all, used, more)

  -- it is signed, and all of them are so far
  pub signs_next : {newer : SignerView} (closing : RoundClosing) → closing.ending ≡ plan.ending
      → SignsPlans new.secret new.used (plan ∷ []) (closing.made ∷ [])
      → IsVerifiedMade (public_key_of new.secret) closing.made → IsFrameMade closing.made → newer ≡ record new { used = new.used + planned_count plan }
      → IsSigning old plans (signed ++ plan ∷ []) left (closings ++ closing ∷ []) newer
  signs_next closing ending made verified frame next =
      let added = due_in-snoc signed plan in
      let more : (old.used + due_in signed) + planned_count plan ≡ old.used + due_in (signed ++ plan ∷ []) = omega (arith, added) in
      let one = subst (λ (k : SignerView). SignsPlans k.secret k.used (plan ∷ []) (closing.made ∷ [])) so_far.used made in
      record {
        all = rw append_assoc so_far.all;
        endings = simp map-append (cc);
        signs = simp map-append (signs_more old.secret old.used signed (map (λ c. c.made) closings) plan closing.made so_far.signs one);
        verified = each_append _ closings (closing ∷ []) so_far.verified (rw so_far.used at verified, tt);
        frames = each_append _ closings (closing ∷ []) so_far.frames (frame, tt);
        used = next ∙ ap (λ (k : SignerView). record k { used = k.used + planned_count plan }) so_far.used
            ∙ ap (λ n. record old { used = n }) more;
      }
