-- In a session the heights that a client gets never fall.
use Rattle.std.proofs.Common.{◌≡◌, ℕ, ◌≤◌, List, [], ◌∷◌, ◌++◌, Bool, true, false, refl, sym, ap, subst, ◌∙◌, inl, inr, arith}
use Rattle.std.specs.Prelude.{nat_lt, ◌||◌, Some, None, Ok, Err, if◌then◌else◌}
use Rattle.std.specs.Int.{w32, to_be_bytes}
use Rattle.std.specs.List.{flat_map}
use Rattle.std.proofs.lemmas.Bool.{ltb-false, or_parts}
use Rattle.std.proofs.lemmas.List.Concat.{flat_map-cons}
use Rattle.ledger_model.specs.declared.fault.ApplyFault.{ApplyFault}
use Rattle.ledger_model.specs.declared.fault.ApplyFault.TheVariants as fault
use Rattle.ledger_model.specs.declared.reply.QueryAnswer.{QueryAnswer}
use Rattle.ledger_model.specs.Sessions.{Exchange, Submits, Queries, Heights, Blocks, Gives, is_too_long, Height, Malformed}
use Rattle.ledger_model.specs.Sessions.{Query, Request, Serves, Session, Session_of, Submit, Block, Switch, faulty, framed, present}
use Rattle.ledger_model.specs.Sessions.{request_of, status}
use Rattle.client_sessions.specs.Heights.{IsRefusalReply, Rises, RisesBy, ContainsHeight, TellsNone}

-- a fault's reply is a refusal
fault_refuses : (why : ApplyFault) (reply : List ℕ) → reply ≡ faulty why → IsRefusalReply reply
fault_refuses fault.HistoryFull reply is = subst IsRefusalReply (sym is) (omega arith)
fault_refuses fault.NoMemory reply is = subst IsRefusalReply (sym is) (omega arith)

-- so is that of a height that is behind
behind_refuses : (reply : List ℕ) → reply ≡ status 2 → IsRefusalReply reply
behind_refuses reply is = subst IsRefusalReply (sym is) (omega arith)

-- and that of a value that fits into no reply
long_refuses : (reply : List ℕ) → reply ≡ status 6 → IsRefusalReply reply
long_refuses reply is = subst IsRefusalReply (sym is) (omega arith)

module _ (s : Session) (reply : List ℕ) (new : Session) where
  -- no height is answered, and the session stays as it was
  stays : (request : Request) → new ≡ s → TellsNone request reply → RisesBy s.greatest request reply new.greatest
  stays request same none = inl (ap (λ t. t.greatest) same, none)

  query_step : (min : ℕ) (key : List ℕ) (a : QueryAnswer) (test long : Bool) → (nat_lt a.height min || nat_lt a.height s.greatest) ≡ test
      → Gives reply new (if test then (status 2, s) else if long then (status 6, s)
      else (0 ∷ to_be_bytes w32 a.height ++ present a.value, record s { greatest = a.height }))
      → RisesBy s.greatest (Query min key) reply new.greatest
  query_step min key a true long is gives = stays (Query min key) gives.1 (behind_refuses reply gives.0)
  query_step min key a false true is gives = stays (Query min key) gives.1 (long_refuses reply gives.0)
  query_step min key a false false is gives =
      let (enough, later) = or_parts (nat_lt a.height min) (nat_lt a.height s.greatest) is in
      let raised : a.height ≡ new.greatest = sym (ap (λ t. t.greatest) gives.1) in
      inr (
        subst (λ h. s.greatest ≤ h) raised (ltb-false a.height s.greatest later),
        subst (λ h. ContainsHeight (Query min key) reply h) raised (ltb-false a.height min enough, (a.value, gives.0)),
      )

  height_step : (height : ℕ) (test : Bool) → nat_lt height s.greatest ≡ test
      → Gives reply new (if test then (status 2, s) else (0 ∷ to_be_bytes w32 height, record s { greatest = height }))
      → RisesBy s.greatest Height reply new.greatest
  height_step height true is gives = stays Height gives.1 (behind_refuses reply gives.0)
  height_step height false is gives =
      let raised : height ≡ new.greatest = sym (ap (λ t. t.greatest) gives.1) in
      inr (subst (λ h. s.greatest ≤ h) raised (ltb-false height s.greatest is), subst (λ h. reply ≡ 0 ∷ to_be_bytes w32 h) raised gives.0)

  switch_step : (r : ℕ) (test : Bool) → Gives reply new (if test then (status 0, record s { replica = r }) else (status 5, s))
      → RisesBy s.greatest (Switch r) reply new.greatest
  switch_step r true gives = inl (ap (λ t. t.greatest) gives.1, tt)
  switch_step r false gives = inl (ap (λ t. t.greatest) gives.1, tt)

-- one request
pub one_rises : (targets : ℕ) (s : Session) (request : Request) (exchanges : List Exchange) (reply : List ℕ) (new : Session)
    → Serves targets s request exchanges reply new → RisesBy s.greatest request reply new.greatest
one_rises targets s (Submit tx) (Submits r asked (Ok (Ok index)) ∷ []) reply new serves = stays s reply new (Submit tx) serves.3 tt
one_rises targets s (Submit tx) (Submits r asked (Ok (Err e)) ∷ []) reply new serves = stays s reply new (Submit tx) serves.3 tt
one_rises targets s (Submit tx) (Submits r asked (Err f) ∷ []) reply new serves = stays s reply new (Submit tx) serves.3 tt
one_rises targets s (Query min key) (Queries r asked (Ok a) ∷ []) reply new serves =
    query_step s reply new min key a (nat_lt a.height min || nat_lt a.height s.greatest) (is_too_long a.value) refl serves.2
one_rises targets s (Query min key) (Queries r asked (Err f) ∷ []) reply new serves =
    stays s reply new (Query min key) serves.3 (fault_refuses f reply serves.2)
one_rises targets s Height (Heights r height ∷ []) reply new serves =
    height_step s reply new height (nat_lt height s.greatest) refl serves.1
one_rises targets s (Block h) (Blocks r asked (Ok (Some v)) ∷ []) reply new serves = stays s reply new (Block h) serves.3 tt
one_rises targets s (Block h) (Blocks r asked (Ok None) ∷ []) reply new serves = stays s reply new (Block h) serves.3 tt
one_rises targets s (Block h) (Blocks r asked (Err f) ∷ []) reply new serves = stays s reply new (Block h) serves.3 tt
one_rises targets s (Switch r) [] reply new serves = switch_step s reply new r (nat_lt r targets) serves
one_rises targets s Malformed [] reply new serves = stays s reply new Malformed serves.1 tt
one_rises targets s _ _ reply new serves = absurd serves

-- a whole session: what was written are replies whose heights never fall
pub heights_rise : (targets : ℕ) (s : Session) (bodies : List (List ℕ)) (exchanges : List Exchange) (written : List ℕ) (new : Session)
    → Session_of targets s bodies exchanges written new
    → (replies : List (List ℕ)) × ((written ≡ flat_map framed replies) × Rises s.greatest bodies replies new.greatest)
unfolding Session_of Rises
heights_rise targets s [] exchanges written new session = ([], (session.1, ap (λ t. t.greatest) session.2))
heights_rise targets s (body ∷ bodies) exchanges written new (first, (rest, (reply, (more, (mid, e, w, serves, session))))) =
    let (replies, (same, rises)) = heights_rise targets mid bodies rest more new session in (
      reply ∷ replies,
      (
        w ∙ ap (λ l. framed reply ++ l) same ∙ sym (flat_map-cons framed reply replies),
        (mid.greatest, (one_rises targets s (request_of body) first reply mid serves, rises)),
      ),
    )

-- one more request
pub rises_more : (least : ℕ) (bodies replies : List (List ℕ)) (mid : ℕ) (body reply : List ℕ) (greatest : ℕ)
    → Rises least bodies replies mid → RisesBy mid (request_of body) reply greatest
    → Rises least (bodies ++ body ∷ []) (replies ++ reply ∷ []) greatest
unfolding Rises
rises_more least [] [] mid body reply greatest rises by =
    (greatest, (subst (λ n. RisesBy n (request_of body) reply greatest) rises by, refl))
rises_more least [] (r ∷ rs) mid body reply greatest rises by = absurd rises
rises_more least (b ∷ bs) [] mid body reply greatest rises by = absurd rises
rises_more least (b ∷ bs) (r ∷ rs) mid body reply greatest (next, (first, rest)) by =
    (next, (first, rises_more next bs rs mid body reply greatest rest by))

-- the greatest height is at least that before
pub never_falls : (least : ℕ) (bodies replies : List (List ℕ)) (greatest : ℕ) → Rises least bodies replies greatest → least ≤ greatest
unfolding Rises
never_falls least [] [] greatest rises = omega (arith, rises)
never_falls least [] (r ∷ rs) greatest rises = absurd rises
never_falls least (b ∷ bs) [] greatest rises = absurd rises
never_falls least (b ∷ bs) (r ∷ rs) greatest (next, (inl same, rest)) = omega (arith, same.0, never_falls next bs rs greatest rest)
never_falls least (b ∷ bs) (r ∷ rs) greatest (next, (inr told, rest)) = omega (arith, told.0, never_falls next bs rs greatest rest)
