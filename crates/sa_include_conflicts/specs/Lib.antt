pub mod Signatures
pub mod SignatureKeys
pub mod Clashes
pub mod Sharing
pub mod Stub
pub mod KnownSignatures
pub mod IncludedFeatures
pub mod Staying
