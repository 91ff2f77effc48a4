use Rattle.http_sessions.proofs.answering.answer_question.Goals as goal

pub returns-in-None-Metrics-clause-replies : goal.returns-in-None-Metrics-clause-replies
returns-in-None-Metrics-clause-replies g c = rw (c.in-None-Metrics.is-0, c.in-None-Metrics.is-1) c.all_metrics.ensures.replies
