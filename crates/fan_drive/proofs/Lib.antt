pub mod StepCell
