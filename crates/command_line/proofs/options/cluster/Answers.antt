use Rattle.std.proofs.Common.{inl, codes, arith}
use Rattle.command_line.specs.Faults.{IsRightOf}
use Rattle.clap.proofs.TakesLemmas.{passed_up}
use Rattle.clap.specs.Words.{found_of, rows_of}
use Rattle.command_line.specs.Options.{SetsCluster}
use Rattle.cluster_setup.specs.declared.cluster_seed.ClusterSeed.{ClusterSeed}
use Rattle.command_line.proofs.NumberLemmas.{narrowed, on_err}
use Rattle.command_line.proofs.options.cluster.Goals as goal

pub returns-in_err-replicas-clause-none : goal.returns-in_err-replicas-clause-none
returns-in_err-replicas-clause-none g c =
    on_err {X = (s : ClusterSeed) → SetsCluster (g.A.Opening.words.kinds) c.args.taken c.args.given (rows_of (found_of c.args.matches.now)) s → ⊥} _ (λ s i.
    c.in_err-replicas.ensures.none s.config.replicas
    (narrowed (rows_of (found_of c.args.matches.now)) (codes "n") 0 255 4 13 s.config.replicas i.n (omega (arith, i.enough, i.tolerant))
    i.bounded))

pub returns-in_err-faults-clause-none : goal.returns-in_err-faults-clause-none
returns-in_err-faults-clause-none g c =
    on_err {X = (s : ClusterSeed) → SetsCluster (g.A.Opening.words.kinds) c.args.taken c.args.given (rows_of (found_of c.args.matches.now)) s → ⊥} _ (λ s i.
    c.in_err-faults.ensures.none s.config.faults
    (narrowed (rows_of (found_of c.args.matches.now)) (codes "t") 0 255 1 4 s.config.faults i.t i.tolerant
    (omega (arith, i.enough, i.bounded))))

pub returns-in_err-kind-clause-none : goal.returns-in_err-kind-clause-none
returns-in_err-kind-clause-none g c =
    on_err {X = (s : ClusterSeed) → SetsCluster (g.A.Opening.words.kinds) c.args.taken c.args.given (rows_of (found_of c.args.matches.now)) s → ⊥} _
    (λ s i. c.in_err-kind.ensures.none _ i.kind)

pub returns-in_err-seed-clause-none : goal.returns-in_err-seed-clause-none
returns-in_err-seed-clause-none g c =
    on_err {X = (s : ClusterSeed) → SetsCluster (g.A.Opening.words.kinds) c.args.taken c.args.given (rows_of (found_of c.args.matches.now)) s → ⊥} _
    (λ s i. c.in_err-seed.ensures.none _ i.seed)

pub returns-in_err-replicas-clause-right : goal.returns-in_err-replicas-clause-right
returns-in_err-replicas-clause-right g c =
    λ meaning table has. passed_up _ c.in_err-replicas.field-0.0 (IsRightOf (g.A.Opening.words.kinds) meaning c.args.given table (rows_of (found_of c.args.matches.now)))
    c.from_residual.ensures.1 (c.in_err-replicas.ensures.right (g.A.Opening.words.kinds) meaning c.args.given table (has.n, inl has.n_limits))

pub returns-in_err-faults-clause-right : goal.returns-in_err-faults-clause-right
returns-in_err-faults-clause-right g c =
    λ meaning table has. passed_up _ c.in_err-faults.field-0.0 (IsRightOf (g.A.Opening.words.kinds) meaning c.args.given table (rows_of (found_of c.args.matches.now)))
    c.from_residual-in_err-faults.ensures.1 (c.in_err-faults.ensures.right (g.A.Opening.words.kinds) meaning c.args.given table (has.t, inl has.t_limits))

pub returns-in_err-kind-clause-right : goal.returns-in_err-kind-clause-right
returns-in_err-kind-clause-right g c =
    λ meaning table has. passed_up _ c.in_err-kind.field-0.0 (IsRightOf (g.A.Opening.words.kinds) meaning c.args.given table (rows_of (found_of c.args.matches.now)))
    c.from_residual-in_err-kind.ensures.1 (c.in_err-kind.ensures.right meaning c.args.given table has.kind)

pub returns-in_err-width-clause-right : goal.returns-in_err-width-clause-right
returns-in_err-width-clause-right g c =
    λ meaning table has. passed_up _ c.in_err-width.field-0.0 (IsRightOf (g.A.Opening.words.kinds) meaning c.args.given table (rows_of (found_of c.args.matches.now)))
    c.from_residual-in_err-width.ensures.1 (c.in_err-width.ensures.right (g.A.Opening.words.kinds) meaning c.args.given table has.w)

pub returns-in_err-height-clause-right : goal.returns-in_err-height-clause-right
returns-in_err-height-clause-right g c =
    λ meaning table has. passed_up _ c.in_err-height.field-0.0 (IsRightOf (g.A.Opening.words.kinds) meaning c.args.given table (rows_of (found_of c.args.matches.now)))
    c.from_residual-in_err-height.ensures.1 (c.in_err-height.ensures.right (g.A.Opening.words.kinds) meaning c.args.given table has.tree)

pub returns-in_err-seed-clause-right : goal.returns-in_err-seed-clause-right
returns-in_err-seed-clause-right g c =
    λ meaning table has. passed_up _ c.in_err-seed.field-0.0 (IsRightOf (g.A.Opening.words.kinds) meaning c.args.given table (rows_of (found_of c.args.matches.now)))
    c.from_residual-in_err-seed.ensures.1 (c.in_err-seed.ensures.right (g.A.Opening.words.kinds) meaning table has.seed)

pub returns-in_err-frames-clause-none : goal.returns-in_err-frames-clause-none
returns-in_err-frames-clause-none g c =
    on_err {X = (s : ClusterSeed) → SetsCluster (g.A.Opening.words.kinds) c.args.taken c.args.given (rows_of (found_of c.args.matches.now)) s → ⊥} _
    (λ s i. c.in_err-frames.ensures.none _ i.frames)

pub returns-in_err-frames-clause-right : goal.returns-in_err-frames-clause-right
returns-in_err-frames-clause-right g c =
    λ meaning table has. passed_up _ c.in_err-frames.field-0.0 (IsRightOf (g.A.Opening.words.kinds) meaning c.args.given table (rows_of (found_of c.args.matches.now)))
    c.from_residual-in_err-frames.ensures.1 (c.in_err-frames.ensures.right (g.A.Opening.words.kinds) meaning c.args.given table (has.frames, inl has.frames_limits))
