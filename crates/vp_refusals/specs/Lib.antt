pub mod PlayAnswers
