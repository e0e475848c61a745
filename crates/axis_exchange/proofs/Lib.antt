pub mod OwnerSteps
