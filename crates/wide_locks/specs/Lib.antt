pub mod WideTrials
