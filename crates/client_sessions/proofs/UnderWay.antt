-- A session that is under way: the bytes read are whole requests, each of which was served.
use Rattle.std.proofs.Common.{◌≡◌, ℕ, ◌+◌, ◌-◌, ◌^◌, List, [], ◌∷◌, ◌++◌, refl, sym, ap, subst, ◌∙◌, length, append_assoc, append-nil}
use Rattle.std.proofs.Common.{arith, length-append}
use Rattle.std.specs.Prelude.{Option}
use Rattle.std.specs.List.{AllByRecursion, FoldsTo, flat_map}
use Rattle.std.specs.Io.KnownBytes.{Appends, Consumes}
use Rattle.std.proofs.KnownBytes.{Appends-nil, Appends-trans, Consumes-nil, Consumes-trans}
use Rattle.std.proofs.lemmas.Grind.{flat_map-append}
use Rattle.ledger_model.specs.Sessions.{Exchange, Serves, Session, Session_of, framed, request_of}
use Rattle.client_sessions.specs.declared.session_end.SessionEnd.{SessionEnd}
use Rattle.client_sessions.specs.declared.session_end.SessionFault.TheVariants as fault
use Rattle.client_sessions.specs.Heights.{Rises}
use Rattle.client_sessions.specs.Serving.{HasEnded, RepliesToRequest, Served, HasStopped}
use Rattle.client_sessions.specs.Streams.{EndsBehind, IsBody, ReadsPart}
use Rattle.byte_streams.specs.Writing.{AppendsSome}
use Rattle.client_sessions.proofs.RisingHeights.{one_rises, rises_more}

-- since the start this many requests were read and served, and their replies written
pub record UnderWay {T : Type 0} (asks : T → Exchange → T → Type 0) (count : ℕ) (before now : T) (old session : Session)
    (unread left had has : Option (List ℕ)) (number : ℕ) : Type 0 where
  pub bodies : List (List ℕ)
  pub replies : List (List ℕ)
  pub counted : length bodies ≡ number
  pub read : Consumes unread left (flat_map framed bodies)
  pub served : Served asks count before now old bodies replies session
  pub written : Appends had has (flat_map framed replies)

-- short bodies, and one more
all_more : (bodies : List (List ℕ)) (body : List ℕ) → AllByRecursion IsBody bodies → IsBody body
    → AllByRecursion IsBody (bodies ++ body ∷ [])
all_more [] body all short = (short, tt)
all_more (b ∷ bs) body all short = (all.0, all_more bs body all.1 short)

-- exchanges, and then others
folds_both : {T : Type 0} (asks : T → Exchange → T → Type 0) (a b c : T) (xs ys : List Exchange) → FoldsTo asks a xs b
    → FoldsTo asks b ys c → FoldsTo asks a (xs ++ ys) c
folds_both asks a b c [] ys first second = subst (λ t. FoldsTo asks t ys c) (sym first) second
folds_both asks a b c (x ∷ xs) ys first second = (first.0, first.1, folds_both asks first.0 b c xs ys first.2 second)

-- a session, and one request more
session_more : (count : ℕ) (s : Session) (bodies : List (List ℕ)) (exchanges : List Exchange) (written : List ℕ) (mid : Session)
    (body : List ℕ) (last : List Exchange) (reply : List ℕ) (new : Session)
    → Session_of count s bodies exchanges written mid → Serves count mid (request_of body) last reply new
    → Session_of count s (bodies ++ body ∷ []) (exchanges ++ last) (written ++ framed reply) new
unfolding Session_of
session_more count s [] exchanges written mid body last reply new session serves = (
  last,
  (
    [],
    (
      reply,
      (
        [],
        (
          new,
          ap (λ l. l ++ last) session.0 ∙ sym (append-nil last),
          ap (λ l. l ++ framed reply) session.1 ∙ sym (append-nil (framed reply)),
          subst (λ t. Serves count t (request_of body) last reply new) session.2 serves,
          (refl, refl, refl),
        ),
      ),
    ),
  ),
)
session_more count s (b ∷ bs) exchanges written mid body last reply new (first, (rest, (r, (more, (next, e, w, served, session)))))
    serves = (
      first,
      (
        rest ++ last,
        (
          r,
          (
            more ++ framed reply,
            (
              next,
              ap (λ l. l ++ last) e ∙ append_assoc first rest last,
              ap (λ l. l ++ framed reply) w ∙ append_assoc (framed r) more (framed reply),
              served,
              session_more count next bs rest more mid body last reply new session serves,
            ),
          ),
        ),
      ),
    )

-- pieces, and one more
pieces_more : (pieces : List (List ℕ)) (piece : List ℕ) → flat_map framed pieces ++ framed piece ≡ flat_map framed (pieces ++ piece ∷ [])
pieces_more pieces piece = sym (flat_map-append framed pieces (piece ∷ [])
    ∙ ap (λ l. flat_map framed pieces ++ l) (append-nil (framed piece)))

module _ {T : Type 0} (asks : T → Exchange → T → Type 0) (count : ℕ) (before : T) (old : Session) (unread had : Option (List ℕ)) where
  -- nothing was read
  pub starts : UnderWay asks count before before old old unread unread had had 0
  unfolding Session_of Rises
  starts = record {
    bodies = [];
    replies = [];
    counted = refl;
    read = Consumes-nil unread;
    served = record { exchanges = []; asked = refl; session = (refl, refl, refl); rises = refl; requests_short = tt; replies_short = tt };
    written = Appends-nil had;
  }

  -- nothing was read, since memory ran out
  pub no_memory : HasStopped asks count before before old old unread unread had had fault.NoMemory
  unfolding Session_of Rises
  no_memory = record {
    bodies = [];
    rest = [];
    replies = [];
    read = Consumes-nil unread;
    stands = (refl, refl);
    served = record { exchanges = []; asked = refl; session = (refl, refl, refl); rises = refl; requests_short = tt; replies_short = tt };
    written = Appends-nil had;
  }

  module _ (now : T) (session : Session) (left has : Option (List ℕ)) (number : ℕ)
      (so_far : UnderWay asks count before now old session unread left had has number) where
    -- the input came to its end
    pub ends : (last : Option (List ℕ)) (end : SessionEnd) → EndsBehind left last end
        → HasEnded asks count before now old session unread last had has end
    ends last end behind = record {
      bodies = so_far.bodies;
      rest = behind.rest;
      replies = so_far.replies;
      read = Consumes-trans unread left last (flat_map framed so_far.bodies) behind.rest so_far.read behind.read;
      stands = behind.stands;
      at_end = behind.at_end;
      served = so_far.served;
      written = so_far.written;
    }

    -- a read failed
    pub read_fails : (last : Option (List ℕ)) (error : _) → ReadsPart left last
        → HasStopped asks count before now old session unread last had has (fault.Read error)
    read_fails last error read = record {
      bodies = so_far.bodies;
      rest = read.rest;
      replies = so_far.replies;
      read = Consumes-trans unread left last (flat_map framed so_far.bodies) read.rest so_far.read read.read;
      stands = read.part;
      served = so_far.served;
      written = so_far.written;
    }

    -- no more requests are served
    pub too_many : number ≡ 2 ^ 64 - 1 → HasStopped asks count before now old session unread left had has fault.TooMany
    too_many all = record {
      bodies = so_far.bodies;
      rest = [];
      replies = so_far.replies;
      read = subst (Consumes unread left) (sym (append-nil (flat_map framed so_far.bodies))) so_far.read;
      stands = (refl, so_far.counted ∙ all);
      served = so_far.served;
      written = so_far.written;
    }

    module _ (body : List ℕ) (short : IsBody body) (last : Option (List ℕ)) (read : Consumes left last (framed body)) (after : T)
        (new : Session) (Sent : List ℕ → Type 0) (one : RepliesToRequest asks count now after session body new Sent) where
      -- one more request was served
      served_more : Served asks count before after old (so_far.bodies ++ body ∷ []) (so_far.replies ++ one.reply ∷ []) new
      served_more = record {
        exchanges = so_far.served.exchanges ++ one.answers.exchanges;
        asked = folds_both asks before now after so_far.served.exchanges one.answers.exchanges so_far.served.asked one.answers.asked;
        session = subst (λ l. Session_of count old (so_far.bodies ++ body ∷ []) (so_far.served.exchanges ++ one.answers.exchanges) l new)
            (pieces_more so_far.replies one.reply)
            (session_more count old so_far.bodies so_far.served.exchanges (flat_map framed so_far.replies) session body
            one.answers.exchanges one.reply new so_far.served.session one.answers.serves);
        rises = rises_more old.greatest so_far.bodies so_far.replies session.greatest body one.reply new.greatest so_far.served.rises
            (one_rises count session (request_of body) one.answers.exchanges one.reply new one.answers.serves);
        requests_short = all_more so_far.bodies body so_far.served.requests_short short;
        replies_short = all_more so_far.replies one.reply so_far.served.replies_short one.short;
      }

      read_more : Consumes unread last (flat_map framed (so_far.bodies ++ body ∷ []))
      read_more = subst (Consumes unread last) (pieces_more so_far.bodies body)
          (Consumes-trans unread left last (flat_map framed so_far.bodies) (framed body) so_far.read read)

      -- and its reply was written
      pub goes_on : (holds : Option (List ℕ)) → Appends has holds (framed one.reply)
          → UnderWay asks count before after old new unread last had holds (number + 1)
      goes_on holds sent = record {
        bodies = so_far.bodies ++ body ∷ [];
        replies = so_far.replies ++ one.reply ∷ [];
        counted = length-append so_far.bodies (body ∷ []) ∙ ap (λ n. n + 1) so_far.counted;
        read = read_more;
        served = served_more;
        written = subst (Appends had holds) (pieces_more so_far.replies one.reply)
            (Appends-trans had has holds (flat_map framed so_far.replies) (framed one.reply) so_far.written sent);
      }

      -- or a prefix of it
      pub write_fails : (holds : Option (List ℕ)) (error : _) → AppendsSome has holds (framed one.reply)
          → HasStopped asks count before after old new unread last had holds (fault.Write error)
      write_fails holds error sent = record {
        bodies = so_far.bodies ++ body ∷ [];
        rest = [];
        replies = so_far.replies ++ one.reply ∷ [];
        read = subst (Consumes unread last) (sym (append-nil (flat_map framed (so_far.bodies ++ body ∷ [])))) read_more;
        stands = (refl, omega (arith, length-append so_far.bodies (body ∷ [])));
        served = served_more;
        written = record {
          done = flat_map framed so_far.replies ++ sent.done;
          left = sent.left;
          split = append_assoc (flat_map framed so_far.replies) sent.done sent.left
              ∙ ap (λ l. flat_map framed so_far.replies ++ l) sent.split ∙ pieces_more so_far.replies one.reply;
          written = Appends-trans had has holds (flat_map framed so_far.replies) sent.done so_far.written sent.written;
        };
      }
