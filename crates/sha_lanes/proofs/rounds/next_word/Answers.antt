use Rattle.std.proofs.Common.{rules, ◌≡◌, ◌%◌, ◌+◌, arith, refl}
use Rattle.sha_lanes.proofs.LaneLemmas.{word_of, words-set}
use Rattle.sha_lanes.proofs.rounds.next_word.Goals as goal

pub returns : goal.returns
returns c =
    let at : c.args.place % 16 ≡ c.args.place = omega arith in
    record {
      value = λ j h. rw (
        at,
        word_of c.args.w.now j ((c.args.place + 14) % 16) (omega arith),
        word_of c.args.w.now j ((c.args.place + 9) % 16) (omega arith),
        word_of c.args.w.now j ((c.args.place + 1) % 16) (omega arith),
        word_of c.args.w.now j c.args.place (omega arith),
        c.add-word.ensures j h,
        c.add-with_first.ensures j h,
        c.small_sigma0-early.ensures j h,
        c.add-with_ninth.ensures j h,
        c.small_sigma1-late.ensures j h,
      ) refl;
      window = λ j h. words-set c.args.w.now (search rules) j c.args.place c.add-word.result c.requires;
    }
